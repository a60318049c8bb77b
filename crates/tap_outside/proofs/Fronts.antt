-- What several writes have written together, for callers that write more than once.
use Rattle.std.proofs.Common.{ℕ, List, ◌++◌, ◌+◌, length, take, Option, None, Some, arith, append_assoc, length-append}
use Rattle.std.proofs.Math.Seq.{take-append-add, take-length}
use Rattle.std.proofs.lemmas.List.{take-append-le}
use Rattle.std.specs.Io.KnownBytes.{Appends}
use Rattle.tap_outside.specs.Sinks.{AppendsFront}

-- some bytes, and then more, are both
pub Appends-then : (old mid new : Option (List ℕ)) (first second : List ℕ)
    → Appends old mid first → Appends mid new second → Appends old new (first ++ second)
Appends-then None mid new first second one two = tt
Appends-then (Some xs) None new first second one two = absurd one
Appends-then (Some xs) (Some ys) None first second one two = absurd two
Appends-then (Some xs) (Some ys) (Some zs) first second one two =
    rw (two, one) (append_assoc xs first second)

-- all bytes are a prefix of them
pub AppendsFront-all : (old new : Option (List ℕ)) (bytes : List ℕ)
    → Appends old new bytes → AppendsFront old new bytes
AppendsFront-all None new bytes all = tt
AppendsFront-all (Some xs) None bytes all = absurd all
AppendsFront-all (Some xs) (Some ys) bytes all = (length bytes, omega arith, rw take-length all)

-- some bytes, and then a prefix of more, are a prefix of both
pub AppendsFront-then : (old mid new : Option (List ℕ)) (first second : List ℕ)
    → Appends old mid first → AppendsFront mid new second → AppendsFront old new (first ++ second)
AppendsFront-then None mid new first second one two = tt
AppendsFront-then (Some xs) None new first second one two = absurd one
AppendsFront-then (Some xs) (Some ys) None first second one two = absurd two
AppendsFront-then (Some xs) (Some ys) (Some zs) first second one two = (
  length first + two.0,
  omega (arith, length-append first second, two.1),
  rw (two.2, one, take-append-add first second two.0) (append_assoc xs first (take two.0 second)),
)

-- a prefix of some bytes is a prefix of them and what was to follow
pub AppendsFront-before : (old new : Option (List ℕ)) (first second : List ℕ)
    → AppendsFront old new first → AppendsFront old new (first ++ second)
AppendsFront-before None new first second front = tt
AppendsFront-before (Some xs) None first second front = absurd front
AppendsFront-before (Some xs) (Some ys) first second front = (
  front.0,
  omega (arith, length-append first second, front.1),
  rw (take-append-le front.0 first second front.1) front.2,
)
