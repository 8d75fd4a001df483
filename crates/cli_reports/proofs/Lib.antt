pub mod PutReports
