-- The line at which the reading of a text stops.
use Rattle.std.proofs.Common.{◌≡◌, ℕ, ◌+◌, Bool, true, false, List, [], ◌∷◌, ◌++◌, length, refl, ap, sym, ◌∙◌, inl, inr, arith}
use Rattle.std.proofs.Common.{Ok, Err}
use Rattle.std.specs.Prelude.{Result, ◌⊎◌, nat_lt, if◌then◌else◌}
use Rattle.text_lines.specs.Lines.{lines_of}
use Rattle.text_lines.specs.Readings.{and_then, read_lines}
use Rattle.text_lines.specs.Words.{is_passed_over, words_of}
use Rattle.setup_text.specs.Drafts.{line_after, nothing_said}
use Rattle.setup_text.specs.FirstFaults.{HasFirstFault, HaveNoFault}
use Rattle.setup_text.specs.Setups.{at_end, at_line, completed, draft_of, setup_after, setup_of}
use Rattle.setup_text.specs.declared.commands.Command.{Command}
use Rattle.setup_text.specs.declared.drafts.Draft.{Draft}
use Rattle.setup_text.specs.declared.setup_error.SetupError.{SetupError}
use Rattle.setup_text.specs.declared.setup_error.SetupKind.{SetupKind}
use Rattle.setup_text.specs.declared.setup_error.SetupKind.TheVariants.{TooLarge}
use Rattle.setup_text.specs.declared.setups.Setup.{Setup}

first : {A : Type 0} (test : Bool) (x y : A) → test ≡ true → (if test then x else y) ≡ x
first true x y h = refl
first false x y h = cc

second : {A : Type 0} (test : Bool) (x y : A) → test ≡ false → (if test then x else y) ≡ y
second true x y h = cc
second false x y h = refl

-- what is known if the reading of a line and those after it ends with a fault
stop_chosen : {S K : Type 0} (Q : Type 0) (over : Bool) (number : ℕ) (given : Result S K) (more : S → Result S (ℕ × K))
    (left : Result S (ℕ × K)) (n : ℕ) (kind : K)
    → (over ≡ true → left ≡ Err (n, kind) → Q) → ((next : S) → over ≡ false → given ≡ Ok next → more next ≡ Err (n, kind) → Q)
    → ((fault : K) → over ≡ false → given ≡ Err fault → ◌≡◌ {A = Result S (ℕ × K)} (Err (number, fault)) (Err (n, kind)) → Q)
    → (if over then left else and_then number given more) ≡ Err (n, kind) → Q
stop_chosen Q true number given more left n kind l g f h = l refl h
stop_chosen Q false number (Ok next) more left n kind l g f h = g next refl refl h
stop_chosen Q false number (Err fault) more left n kind l g f h = f fault refl refl h

err_pair : {S K : Type 0} (a b : ℕ × K) → ◌≡◌ {A = Result S (ℕ × K)} (Err a) (Err b) → a ≡ b
err_pair a b h = cc

not_err : {S K : Type 0} (Q : Type 0) (state : S) (fault : ℕ × K) → ◌≡◌ {A = Result S (ℕ × K)} (Ok state) (Err fault) → Q
not_err Q state fault h = cc

-- the same for lines the first of which has any number
pub record Stops {S K : Type 0} (step : S → List ℕ → Result S K) (start : S) (lines : List (List ℕ)) (number n : ℕ) (kind : K)
    : Type 0 where
  pub before : List (List ℕ)
  pub line : List ℕ
  pub after : List (List ℕ)
  pub state : S
  pub lines_are : lines ≡ before ++ line ∷ after
  pub place : n ≡ number + length before
  pub faultless : read_lines step number start before ≡ Ok state
  pub counts : is_passed_over (words_of line) ≡ false
  pub fault : step state line ≡ Err kind

stops_over : {S K : Type 0} (step : S → List ℕ → Result S K) (start : S) (line : List ℕ) (more : List (List ℕ))
    (number n : ℕ) (kind : K)
    → is_passed_over (words_of line) ≡ true → Stops step start more (number + 1) n kind
    → Stops step start (line ∷ more) number n kind
unfolding read_lines
stops_over step start line more number n kind over s = record {
  before = line ∷ s.before;
  line = s.line;
  after = s.after;
  state = s.state;
  lines_are = ap (λ (lines : List (List ℕ)). line ∷ lines) s.lines_are;
  place = omega (arith, s.place);
  faultless = first _ _ _ over ∙ s.faultless;
  counts = s.counts;
  fault = s.fault;
}

stops_later : {S K : Type 0} (step : S → List ℕ → Result S K) (start next : S) (line : List ℕ) (more : List (List ℕ))
    (number n : ℕ) (kind : K)
    → is_passed_over (words_of line) ≡ false → step start line ≡ Ok next → Stops step next more (number + 1) n kind
    → Stops step start (line ∷ more) number n kind
unfolding read_lines
stops_later step start next line more number n kind over e s = record {
  before = line ∷ s.before;
  line = s.line;
  after = s.after;
  state = s.state;
  lines_are = ap (λ (lines : List (List ℕ)). line ∷ lines) s.lines_are;
  place = omega (arith, s.place);
  faultless =
      second _ _ _ over ∙ ap (λ given. and_then number given (λ then_. read_lines step (number + 1) then_ s.before)) e
      ∙ s.faultless;
  counts = s.counts;
  fault = s.fault;
}

stops_here : {S K : Type 0} (step : S → List ℕ → Result S K) (start : S) (line : List ℕ) (more : List (List ℕ)) (number n : ℕ)
    (kind fault : K)
    → is_passed_over (words_of line) ≡ false → step start line ≡ Err fault → ◌≡◌ {A = ℕ × K} (number, fault) (n, kind)
    → Stops step start (line ∷ more) number n kind
unfolding read_lines
stops_here step start line more number n kind fault over e same = record {
  before = [];
  line = line;
  after = more;
  state = start;
  lines_are = refl;
  place = omega (arith, ap (λ p. p.0) same);
  faultless = refl;
  counts = over;
  fault = e ∙ ap (λ p. Err p.1) same;
}

pub stops : {S K : Type 0} (step : S → List ℕ → Result S K) (start : S) (lines : List (List ℕ)) (number n : ℕ) (kind : K)
    → read_lines step number start lines ≡ Err (n, kind) → Stops step start lines number n kind
unfolding read_lines
stops step start [] number n kind h = not_err (Stops step start [] number n kind) start (n, kind) h
stops step start (line ∷ more) number n kind h =
    stop_chosen (Stops step start (line ∷ more) number n kind) (is_passed_over (words_of line)) number (step start line)
    (λ next. read_lines step (number + 1) next more) (read_lines step (number + 1) start more) n kind
    (λ over h. stops_over step start line more number n kind over (stops step start more (number + 1) n kind h))
    (λ next over e h. stops_later step start next line more number n kind over e (stops step next more (number + 1) n kind h))
    (λ fault over e h. stops_here step start line more number n kind fault over e (err_pair (number, fault) (n, kind) h)) h

pub first_fault : {S K : Type 0} (step : S → List ℕ → Result S K) (start : S) (lines : List (List ℕ)) (count : ℕ) (kind : K)
    → read_lines step 1 start lines ≡ Err (count + 1, kind) → HasFirstFault step start lines count kind
first_fault step start lines count kind h =
    let s = stops step start lines 1 (count + 1) kind h in
    record {
      before = s.before;
      line = s.line;
      after = s.after;
      state = s.state;
      lines_are = s.lines_are;
      place = omega (arith, s.place);
      faultless = s.faultless;
      counts = s.counts;
      fault = s.fault;
    }

-- ---- of a setup

err_same : (a b : SetupError) → ◌≡◌ {A = Result Setup SetupError} (Err a) (Err b) → a ≡ b
err_same a b h = cc

at_end_line : (given : Result Setup SetupKind) (error : SetupError) → at_end given ≡ Err error → error.line ≡ 0
at_end_line (Ok setup) error h = cc
at_end_line (Err kind) error h = ap (λ (e : SetupError). e.line) (sym (err_same _ error h))

-- a fault of a line is that of the reading
read_fault : (large : Bool) (command : Command) (read : Result Draft (ℕ × SetupKind)) (line : ℕ) (kind : SetupKind)
    → (if large then Err (record { line = 0; kind = TooLarge }) else completed command (at_line read))
    ≡ Err (record { line = line + 1; kind = kind })
    → read ≡ Err (line + 1, kind)
read_fault true command read line kind h =
    let same : 0 ≡ line + 1 =
    ap (λ (e : SetupError). e.line)
    (err_same (record { line = 0; kind = TooLarge }) (record { line = line + 1; kind = kind }) h) in
    absurd (omega (arith, same))
read_fault false command (Ok draft) line kind h =
    absurd (omega (arith, at_end_line (setup_after command draft) (record { line = line + 1; kind = kind }) h))
read_fault false command (Err fault) line kind h =
    let same = err_same (record { line = fault.0; kind = fault.1 }) (record { line = line + 1; kind = kind }) h in
    ap (λ (e : SetupError). Err (e.line, e.kind)) same

-- with line 0 the text is too large, or was read to its end
read_whole : (large : Bool) (command : Command) (read : Result Draft (ℕ × SetupKind)) (kind : SetupKind)
    → ((fault : ℕ × SetupKind) → read ≡ Err fault → fault.0 ≡ 0 → (kind ≡ TooLarge) ⊎ ((draft : Draft) × (read ≡ Ok draft)))
    → (if large then Err (record { line = 0; kind = TooLarge }) else completed command (at_line read))
    ≡ Err (record { line = 0; kind = kind })
    → (kind ≡ TooLarge) ⊎ ((draft : Draft) × (read ≡ Ok draft))
read_whole true command read kind never h =
    inl (ap (λ (e : SetupError). e.kind)
    (sym (err_same (record { line = 0; kind = TooLarge }) (record { line = 0; kind = kind }) h)))
read_whole false command (Ok draft) kind never h = inr (draft, refl)
read_whole false command (Err fault) kind never h =
    never fault refl
    (ap (λ (e : SetupError). e.line)
    (err_same (record { line = fault.0; kind = fault.1 }) (record { line = 0; kind = kind }) h))

pub setup_first_fault : (text : List ℕ) (command : Command) (count : ℕ) (kind : SetupKind)
    → setup_of text command ≡ Err (record { line = count + 1; kind = kind })
    → HasFirstFault line_after nothing_said (lines_of text) count kind
unfolding setup_of draft_of
setup_first_fault text command count kind h =
    first_fault line_after nothing_said (lines_of text) count kind
    (read_fault (nat_lt 1048576 (length text)) command (read_lines line_after 1 nothing_said (lines_of text)) count kind h)

no_line_0 : (text : List ℕ) (kind : SetupKind) (fault : ℕ × SetupKind)
    → read_lines line_after 1 nothing_said (lines_of text) ≡ Err fault → fault.0 ≡ 0
    → (kind ≡ TooLarge) ⊎ ((draft : Draft) × (read_lines line_after 1 nothing_said (lines_of text) ≡ Ok draft))
no_line_0 text kind fault e none =
    let place = (stops line_after nothing_said (lines_of text) 1 fault.0 fault.1 e).place in absurd (omega (arith, place, none))

pub setup_no_line : (text : List ℕ) (command : Command) (kind : SetupKind)
    → setup_of text command ≡ Err (record { line = 0; kind = kind })
    → (kind ≡ TooLarge) ⊎ HaveNoFault line_after nothing_said (lines_of text)
unfolding setup_of draft_of
setup_no_line text command kind h =
    read_whole (nat_lt 1048576 (length text)) command (read_lines line_after 1 nothing_said (lines_of text)) kind
    (no_line_0 text kind) h
