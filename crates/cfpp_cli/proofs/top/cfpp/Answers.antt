use Rattle.cfpp_cli.proofs.Tops.{none-rose, top-put, top-unpassed, top-failed, top-cut}
use Rattle.cfpp_cli.proofs.top.cfpp.Goals as goal

pub returns-in-Ok-pass_on-clause-top : goal.returns-in-Ok-pass_on-clause-top
returns-in-Ok-pass_on-clause-top g c =
    top-put _ _ _ _ _ c.let_gather.ensures c.in-Ok.ensures c.in-Ok-put.is c.in-Ok-pass_on.ensures.written c.in-Ok-pass_on.ensures.cause.still

pub returns-in-Err-pass_on-clause-top : goal.returns-in-Err-pass_on-clause-top
returns-in-Err-pass_on-clause-top g c =
    top-unpassed _ _ _ _ _ c.let_gather.ensures c.in-Ok.ensures c.in-Ok-put.is c.in-Err-pass_on.ensures.written c.in-Err-pass_on.ensures.cause.rose

pub returns-in-Err-put-clause-top : goal.returns-in-Err-put-clause-top
returns-in-Err-put-clause-top g c =
    top-failed _ _ _ _ c.let_gather.ensures c.in-Ok.ensures c.in-Err-put.is

pub returns-in-Err-clause-top : goal.returns-in-Err-clause-top
returns-in-Err-clause-top g c =
    top-cut _ _ _ c.let_gather.ensures c.in-Err.ensures

pub returns-in-Ok-pass_on-clause-still : goal.returns-in-Ok-pass_on-clause-still
returns-in-Ok-pass_on-clause-still g c =
    none-rose _ _ _ (top-put _ _ _ _ _ c.let_gather.ensures c.in-Ok.ensures c.in-Ok-put.is c.in-Ok-pass_on.ensures.written c.in-Ok-pass_on.ensures.cause.still)
