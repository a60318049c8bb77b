-- The items, and the new one.
use Rattle.std.proofs.Common.{[], ◌∷◌, ◌++◌}
use Rattle.history.proofs.history.History.push.Given as goal

abbrev pub ghost-of : goal.ghost-of
ghost-of g a = a._one.now.items ++ a._other.now ∷ []
