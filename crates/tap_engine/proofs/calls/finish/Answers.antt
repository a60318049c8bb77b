use Rattle.tap_engine.proofs.Answered.{gave_up, told}
use Rattle.tap_engine.proofs.calls.finish.Goals as goal

pub returns-in-Ok : goal.returns-in-Ok
returns-in-Ok g c = λ command old searched.
    told command _ old _ _ _ (c.in-Ok.ensures.told command old searched)

pub returns-in-Err : goal.returns-in-Err
returns-in-Err g c = λ command old searched.
    gave_up command _ old _ _ _ _ c.give_up.ensures.status c.give_up.ensures.report
    (c.in-Err.ensures.cut command old searched) c.give_up.ensures.line c.give_up.ensures.kept
    c.give_up.ensures.one
