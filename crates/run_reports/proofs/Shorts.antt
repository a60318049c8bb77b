-- Each packet that a group reports is short enough for an output file: it was cut to the room of a
-- block or slot.
use Rattle.std.proofs.Common.{◌≡◌, ℕ, ◌<◌, ◌≤◌, Bool, List, [], ◌∷◌, length, get_or, Option, sym, subst, arith}
use Rattle.std.specs.Prelude.{All, map}
use Rattle.std.specs.List.{AllByRecursion}
use Rattle.std.proofs.lemmas.List.{length-map, length-take, get_or-map}
use Rattle.std.proofs.lemmas.List.Elements.{All-from_recursion}
use Rattle.fanout_group.specs.Joined.{AreNotesOf, Logged, attempts_at, nothing_logged}
use Rattle.fanout_group.specs.Once.{IsGroupReport}
use Rattle.fanout_group.specs.Rules.{Rules}
use Rattle.frame_view.specs.declared.frames.Frame.{Frame}
use Rattle.frame_view.specs.declared.frames.Packet.{Packet}
use Rattle.ring_model.specs.Fates.{frame_notes, kept_of}
use Rattle.ring_model.specs.Offers.{packet_of}
use Rattle.ring_model.specs.declared.notes.Note.{Note}
use Rattle.ring_model.specs.declared.notes.Offer.{Offer}
use Rattle.setup_text.specs.declared.jobs.Job.{Job}
use Rattle.run_reports.specs.declared.reports.MemberReport.{MemberReport}
use Rattle.run_reports.specs.declared.reports.RunReport.{RunReport}
use Rattle.run_reports.specs.Jobs.{rules_of}
use Rattle.run_reports.specs.Members.{AreShort}
use Rattle.run_reports.specs.Reports.{IsReport, logged, notes_of}
use Rattle.run_reports.specs.RingRules.{Serves, rules_by}
use Rattle.run_reports.specs.declared.ring_kind.RingKind.{RingKind}
use Rattle.run_reports.specs.declared.ring_kind.RingKind.TheVariants.{Blocks, Slots}
use Rattle.slot_layout.proofs.SlotBounds.{slot_bounds}
use Rattle.run_reports.proofs.KeptOffers.{IsCut, all_cut}

packets_short : (fills : Bool) (room : ℕ) (offers : List Offer) → room ≤ 4294967373 → AllByRecursion (IsCut room) offers
    → AllByRecursion (λ packet. length packet.bytes ≤ 4294967291) (map (packet_of fills) offers)
packets_short fills room [] small cut = tt
packets_short fills room (offer ∷ offers) small cut =
    let cut_first = cut.0 in
    (omega (arith, small, cut_first, length-take offer.snap offer.frame.bytes), packets_short fills room offers small cut.1)

abbrev IsShort : Packet → Type 0
IsShort packet = length packet.bytes ≤ 4294967291

-- the members of a group whose offers are cut for this room, and whose readers read what was kept
module _ (rules : Rules) (room : ℕ) (fills : Bool) (cpus : List Logged) (members : List MemberReport)
    (small : room ≤ 4294967373)
    (group : IsGroupReport rules room cpus (notes_of members)) where
  cut_at : (at : ℕ) (d : MemberReport) → at < length members → AllByRecursion (IsCut room) (kept_of (get_or members at d).notes)
  cut_at at d within =
      let counted = length-map members (λ (member : MemberReport). member.notes) in
      let inside : at < length (map (λ (member : MemberReport). member.notes) members) = omega (arith, within, counted) in
      let same : get_or (map (λ (member : MemberReport). member.notes) members) at [] ≡ (get_or members at d).notes =
      get_or-map (λ (member : MemberReport). member.notes) members at d [] within in
      all_cut room rules.own (get_or members at d).notes
      (λ cpu. let l = get_or cpus cpu nothing_logged in attempts_at at l.arrivals l.log)
      (λ cpu. let l = get_or cpus cpu nothing_logged in
      subst (λ (ns : List Note). AreNotesOf room rules.own (attempts_at at l.arrivals l.log) (frame_notes cpu ns)) same
      (group.joined.each cpu at inside))

  pub short_members : ((at : ℕ) (d : MemberReport) → at < length members
      → (get_or members at d).walked ≡ map (packet_of fills) (kept_of (get_or members at d).notes)) → AreShort members
  short_members walked = λ at d within.
      subst (λ (ps : List Packet). All IsShort ps) (sym (walked at d within))
      (All-from_recursion IsShort _ (packets_short fills room (kept_of (get_or members at d).notes) small (cut_at at d within)))

-- the room of these rings is small enough
room_small : (kind : RingKind) (job : Job) → Serves kind job.setup.shape
    → (rules_by kind job.setup.shape).steps.size.room ≤ 4294967373
room_small Blocks job serves = (let low = job.runnable.ring.small in omega (arith, low))
room_small Slots job serves = (let low = (slot_bounds job.setup.shape serves).small in omega (arith, low))

pub are_short : (kind : RingKind) (job : Job) (arriving : List (List (Option Frame))) (report : RunReport)
    → Serves kind job.setup.shape
    → IsReport (rules_by kind job.setup.shape) (rules_of job) job.setup.dump arriving report → AreShort report.members
are_short kind job arriving report serves h =
    let rings = rules_by kind job.setup.shape in
    short_members (rules_of job) rings.steps.size.room rings.fills (logged arriving report.cpus) report.members
    (room_small kind job serves) h.group
    (λ at d within. let member = h.members at d within in member.walked)
