use Rattle.tap_sizes.proofs.Answered.{gave_up, told}
use Rattle.tap_sizes.proofs.calls.finish.Goals as goal

pub returns-in-Ok : goal.returns-in-Ok
returns-in-Ok g c = λ command old new searched.
    told command _ old new _ _ (c.in-Ok.ensures.told command old new searched)

pub returns-in-Err : goal.returns-in-Err
returns-in-Err g c = λ command old new searched.
    gave_up command _ old new _ _ _ c.give_up.ensures.status c.give_up.ensures.report
    (c.in-Err.ensures.cut command old new searched) c.give_up.ensures.line c.give_up.ensures.kept
    c.give_up.ensures.one
