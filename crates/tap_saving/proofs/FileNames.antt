-- The names of the files of a run differ, and each is one of those that are meant for saving.
use Rattle.std.proofs.Common.{◌≡◌, ◌≢◌, ℕ, ◌+◌, ◌*◌, ◌<◌, ◌≤◌, Bool, true, false, List, [], ◌∷◌}
use Rattle.std.proofs.Common.{◌++◌, length, drop, get_or, ap, ◌∙◌, arith, append_assoc, subst, sym}
use Rattle.std.specs.Prelude.{codes, if◌then◌else◌, Option, None, Some, is_some, slice_get}
use Rattle.std.specs.List.{AllByRecursion}
use Rattle.std.proofs.Math.Seq.{drop-append_seam}
use Rattle.std.proofs.lemmas.Fmt.{decimal_digit}
use Rattle.frame_view.specs.declared.frames.Packet.{Packet}
use Rattle.run_reports.specs.declared.reports.Forwards.{Forwards}
use Rattle.run_reports.specs.declared.reports.MemberReport.{MemberReport}
use Rattle.setup_text.specs.declared.setups.Setup.{Setup}
use Rattle.tap_saving.specs.Files.{File, blocks_file, file_name, files_at, files_from, forward_file}
use Rattle.tap_saving.specs.Files.{forward_name, names_at, names_from, output_files, output_names}
use Rattle.tap_saving.specs.Files.{packets_file, sent_by}
use Rattle.tap_outside.specs.Seen.{StoreSeen}
use Rattle.tap_saving.specs.Saves.{IsApart, Touches}
use Rattle.tap_saving.specs.inside.Plans.{HaveOwnNames, names_of}
use Rattle.tap_saving.proofs.Stores.{touches_more}

-- ---- lists

all_front : {X : Type 0} (P : X → Type 0) (xs ys : List X) → AllByRecursion P (xs ++ ys)
    → AllByRecursion P xs
all_front P [] ys all = tt
all_front P (x ∷ xs) ys all = (all.0, all_front P xs ys all.1)

all_back : {X : Type 0} (P : X → Type 0) (xs ys : List X) → AllByRecursion P (xs ++ ys)
    → AllByRecursion P ys
all_back P [] ys all = all
all_back P (x ∷ xs) ys all = all_back P xs ys all.1

all_join : {X : Type 0} (P : X → Type 0) (xs ys : List X) → AllByRecursion P xs
    → AllByRecursion P ys → AllByRecursion P (xs ++ ys)
all_join P [] ys front back = back
all_join P (x ∷ xs) ys front back = (front.0, all_join P xs ys front.1 back)

all_names : (P : List ℕ → Type 0) (files : List File)
    → AllByRecursion (λ file. P file.name) files → AllByRecursion P (names_of files)
all_names P [] all = tt
all_names P (file ∷ files) all = (all.0, all_names P files all.1)

-- ---- names that ascend

-- after the prefix a name is a dot, a digit and an ending. Names ascend by the digit, and those of
-- a member by the third byte of the ending: `c`, `l` or `x`
abbrev key_of : List ℕ → ℕ
key_of tail = 256 * get_or tail 1 0 + get_or tail 4 0

unfoldable key : List ℕ → List ℕ → ℕ
key prefix name = key_of (drop (length prefix) name)

key_is : (prefix : List ℕ) (member : ℕ) (ending : List ℕ) → member < 10
    → key prefix (file_name prefix member ending) ≡ 256 * (48 + member) + get_or ending 2 0
unfolding key
key_is prefix member ending small =
    ap (λ (digits : List ℕ). key prefix (prefix ++ (codes "." ++ (digits ++ ending))))
    (decimal_digit member small)
    ∙ ap key_of (drop-append_seam prefix (46 ∷ ((48 + member) ∷ ending)))

-- the names ascend, from a least key on
abbrev Ascend : List ℕ → ℕ → List File → Type 0
Ascend prefix least [] = Unit {0}
Ascend prefix least (file ∷ files) =
    (least ≤ key prefix file.name) × Ascend prefix (key prefix file.name + 1) files

ascend_from : (prefix : List ℕ) (low high : ℕ) (files : List File) → low ≤ high
    → Ascend prefix high files → Ascend prefix low files
ascend_from prefix low high [] less up = tt
ascend_from prefix low high (file ∷ files) less up =
    (let first = up.0 in omega (arith, first, less), up.1)

others_differ : (prefix name : List ℕ) (least : ℕ) (files : List File) → key prefix name < least
    → Ascend prefix least files → IsApart name (names_of files)
others_differ prefix name least [] less up = tt
others_differ prefix name least (file ∷ files) less up = (
  λ same.
      let first = up.0 in let keys = ap (λ (n : List ℕ). key prefix n) same in
      omega (arith, less, first, keys),
  others_differ prefix name (key prefix file.name + 1) files
      (let first = up.0 in omega (arith, less, first)) up.1,
)

own_names : (prefix : List ℕ) (least : ℕ) (files : List File) → Ascend prefix least files
    → HaveOwnNames files
own_names prefix least [] up = tt
own_names prefix least (file ∷ files) up = (
  others_differ prefix file.name (key prefix file.name + 1) files (omega arith) up.1,
  own_names prefix (key prefix file.name + 1) files up.1,
)

-- ---- the files of members

-- the names of what a member read ascend, and others from its number on
outputs_ascend : (setup : Setup) (member : ℕ) (report : MemberReport) (rest : List File)
    → member < 10 → Ascend setup.prefix (256 * (48 + member) + 109) rest
    → Ascend setup.prefix (256 * (48 + member)) (output_files setup member report ++ rest)
outputs_ascend setup member report rest small up =
    let first = key_is setup.prefix member (codes ".pcap") small in
    (omega (arith, first), by setup.dump) where
      by : (dump : Bool) → Ascend setup.prefix (key setup.prefix (packets_file setup member report).name + 1)
          ((if dump then blocks_file setup member report ∷ [] else []) ++ rest)
      by true =
          let first = key_is setup.prefix member (codes ".pcap") small in
          let second = key_is setup.prefix member (codes ".blk") small in
          (omega (arith, first, second), ascend_from setup.prefix _ _ rest (omega (arith, second)) up)
      by false =
          let first = key_is setup.prefix member (codes ".pcap") small in
          ascend_from setup.prefix _ _ rest (omega (arith, first)) up

-- and so do the names of all that it has
member_ascends : (setup : Setup) (member : ℕ) (report : MemberReport) (sent : Option (List Packet))
    (rest : List File) → member < 10 → Ascend setup.prefix (256 * (48 + (member + 1))) rest
    → Ascend setup.prefix (256 * (48 + member)) (files_at setup member report sent ++ rest)
member_ascends setup member report None rest small up =
    outputs_ascend setup member report rest small (ascend_from setup.prefix _ _ rest (omega arith) up)
member_ascends setup member report (Some sent) rest small up =
    let third = key_is setup.prefix member (codes ".tx.pcap") small in
    subst (λ (files : List File). Ascend setup.prefix (256 * (48 + member)) files)
    (sym (append_assoc (output_files setup member report) (forward_file setup member sent ∷ []) rest))
    (outputs_ascend setup member report (forward_file setup member sent ∷ rest) small
    (omega (arith, third), ascend_from setup.prefix _ _ rest (omega (arith, third)) up))

members_ascend : (setup : Setup) (forwards : Option Forwards) (member : ℕ)
    (reports : List MemberReport) → member + length reports ≤ 10
    → Ascend setup.prefix (256 * (48 + member)) (files_from setup forwards member reports)
members_ascend setup forwards member [] few = tt
members_ascend setup forwards member (report ∷ reports) few =
    member_ascends setup member report (sent_by forwards member)
    (files_from setup forwards (member + 1) reports) (omega (arith, few))
    (members_ascend setup forwards (member + 1) reports (omega (arith, few)))

-- so no two files of a run have the same name
pub run_names : (setup : Setup) (forwards : Option Forwards) (reports : List MemberReport)
    (files : List File) → files ≡ files_from setup forwards 0 reports → length reports ≤ 8
    → HaveOwnNames files
run_names setup forwards reports files is few =
    subst HaveOwnNames (sym is) (own_names setup.prefix _ (files_from setup forwards 0 reports)
    (members_ascend setup forwards 0 reports (omega (arith, few))))

-- ---- names that are meant

outputs_named : (P : List ℕ → Type 0) (setup : Setup) (member : ℕ) (report : MemberReport)
    → AllByRecursion P (output_names setup member)
    → AllByRecursion (λ file. P file.name) (output_files setup member report)
outputs_named P setup member report all = (all.0, by setup.dump all.1) where
  by : (dump : Bool)
      → AllByRecursion P (if dump then file_name setup.prefix member (codes ".blk") ∷ [] else [])
      → AllByRecursion (λ file. P file.name) (if dump then blocks_file setup member report ∷ [] else [])
  by true all = all
  by false all = tt

sender_named : (P : List ℕ → Type 0) (setup : Setup) (member : ℕ) (report : MemberReport)
    (sent : Option (List Packet)) → AllByRecursion P (names_at setup true member)
    → AllByRecursion (λ file. P file.name) (files_at setup member report sent)
sender_named P setup member report None all =
    outputs_named P setup member report
    (all_front P (output_names setup member) (forward_name setup member ∷ []) all)
sender_named P setup member report (Some sent) all =
    all_join _ (output_files setup member report) (forward_file setup member sent ∷ [])
    (outputs_named P setup member report
    (all_front P (output_names setup member) (forward_name setup member ∷ []) all))
    (all_back P (output_names setup member) (forward_name setup member ∷ []) all)

member_named : (P : List ℕ → Type 0) (setup : Setup) (forwards : Option Forwards) (member : ℕ)
    (report : MemberReport) → AllByRecursion P (names_at setup (is_some forwards) member)
    → AllByRecursion (λ file. P file.name) (files_at setup member report (sent_by forwards member))
member_named P setup None member report all = outputs_named P setup member report all
member_named P setup (Some forwards) member report all =
    sender_named P setup member report (slice_get forwards.sent member) all

members_named : (P : List ℕ → Type 0) (setup : Setup) (forwards : Option Forwards) (member : ℕ)
    (reports : List MemberReport)
    → AllByRecursion P (names_from setup (is_some forwards) member (length reports))
    → AllByRecursion (λ file. P file.name) (files_from setup forwards member reports)
members_named P setup forwards member [] all = tt
members_named P setup forwards member (report ∷ reports) all =
    all_join _ (files_at setup member report (sent_by forwards member))
    (files_from setup forwards (member + 1) reports)
    (member_named P setup forwards member report
    (all_front P (names_at setup (is_some forwards) member)
    (names_from setup (is_some forwards) (member + 1) (length reports)) all))
    (members_named P setup forwards (member + 1) reports
    (all_back P (names_at setup (is_some forwards) member)
    (names_from setup (is_some forwards) (member + 1) (length reports)) all))

-- what holds of all names holds of those of the files
pub run_named : (P : List ℕ → Type 0) (setup : Setup) (forwards : Option Forwards)
    (reports : List MemberReport) (files : List File) → files ≡ files_from setup forwards 0 reports
    → AllByRecursion P (names_from setup (is_some forwards) 0 (length reports))
    → AllByRecursion (λ file. P file.name) files
run_named P setup forwards reports files is all =
    subst (AllByRecursion (λ file. P file.name)) (sym is) (members_named P setup forwards 0 reports all)

-- so no other name is touched
pub run_touched : (setup : Setup) (forwards : Option Forwards) (reports : List MemberReport)
    (files : List File) (a b : StoreSeen) → files ≡ files_from setup forwards 0 reports
    → Touches a b (names_of files)
    → Touches a b (names_from setup (is_some forwards) 0 (length reports))
run_touched setup forwards reports files a b is t =
    touches_more a b (names_of files) (names_from setup (is_some forwards) 0 (length reports))
    (λ name apart. all_names (λ other. name ≢ other) files
    (run_named (λ other. name ≢ other) setup forwards reports files is apart)) t
