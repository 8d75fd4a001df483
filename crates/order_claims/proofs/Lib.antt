mod NoneWrong
mod Held
mod ending
