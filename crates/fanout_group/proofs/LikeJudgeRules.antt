-- Two judges that show the same of a CPU judge its arrivals alike.
use Rattle.std.proofs.Common.{◌≡◌, ℕ, List, sym, ap, ◌∙◌}
use Rattle.std.specs.Prelude.{Option}
use Rattle.bpf_filter.specs.declared.insn.Insn.{Insn}
use Rattle.frame_view.specs.declared.frames.Frame.{Frame}
use Rattle.ring_model.specs.declared.notes.Offer.{Offer}
use Rattle.fanout_group.specs.Judgements.{AgreesAt, IsJudged, JudgeRules, first_entry, hash_by, offer_by, offer_if, verdict_by}
use Rattle.fanout_group.specs.declared.logs.ArrivalLog.{ArrivalLog}

-- the judge of these parts, with one receive queue
abbrev judge_rules_by : Option (List ℕ) → Option (List Insn) → Option (List ℕ) → ℕ → JudgeRules
judge_rules_by key filter own queue = record { key = key; filter = filter; own = own; queue = λ _. queue }

module _ (frame : Frame) (group judge : JudgeRules) (agree : AgreesAt frame.cpu group judge) where
  same_verdict : verdict_by group frame ≡ verdict_by judge frame
  same_verdict =
      ap (λ (key : Option (List ℕ)). verdict_by (judge_rules_by key group.filter group.own (group.queue frame.cpu)) frame)
      agree.key
      ∙ ap (λ (filter : Option (List Insn)). verdict_by (judge_rules_by judge.key filter group.own (group.queue frame.cpu))
      frame) agree.filter
      ∙ ap (λ (own : Option (List ℕ)). verdict_by (judge_rules_by judge.key judge.filter own (group.queue frame.cpu)) frame)
      agree.own
      ∙ ap (λ (queue : ℕ). verdict_by (judge_rules_by judge.key judge.filter judge.own queue) frame) agree.queue

  same_hash : hash_by group.key frame ≡ hash_by judge.key frame
  same_hash = ap (λ (key : Option (List ℕ)). hash_by key frame) agree.key

  same_entry : (ticket : Option ℕ) → first_entry judge frame ticket ≡ first_entry group frame ticket
  same_entry ticket =
      let entry : ℕ → ℕ → ArrivalLog =
      λ hash verdict. record (first_entry judge frame ticket) { hash = hash; verdict = verdict } in
      ap (λ hash. entry hash (verdict_by judge frame)) (sym same_hash)
      ∙ ap (λ verdict. entry (hash_by group.key frame) verdict) (sym same_verdict)

  same_offer : (room : ℕ) → offer_by judge room frame ≡ offer_by group room frame
  same_offer room =
      ap (λ (own : Option (List ℕ)). offer_if room own (hash_by judge.key frame) (verdict_by judge frame) frame) (sym agree.own)
      ∙ ap (λ hash. offer_if room group.own hash (verdict_by judge frame) frame) (sym same_hash)
      ∙ ap (λ verdict. offer_if room group.own (hash_by group.key frame) verdict frame) (sym same_verdict)

  pub judged_alike : (room : ℕ) (ticket : Option ℕ) (entry : ArrivalLog) (made : Option Offer)
      → entry ≡ first_entry judge frame ticket
      → made ≡ offer_by judge room frame → IsJudged group room frame entry made
  judged_alike room ticket entry made e o =
      let drawn : ticket ≡ entry.ticket = sym (ap (λ (x : ArrivalLog). x.ticket) e) in
      record {
        entry_is = e ∙ same_entry ticket ∙ ap (λ (t : Option ℕ). first_entry group frame t) drawn;
        offer_is = o ∙ same_offer room;
      }
