-- `of` makes the empty struct, with the items that its clause names. Assumes `Logic`.
use Rattle.std.proofs.Common.{List, [], ◌∷◌, refl}
use seplogic.Ra.Ura.{Ura}
use mir.Syntax.{Fn, Args, a_type, named}
use mir.Val.{Val, vptr, vstruct, vcons, vnil}
use mir.MapTy.{inst_fn}
use base.Logic.{SProp, via, fst∗}
use base.Fml.{Fml}
use prog.Memory.{Memory}
use prog.Routine.{Routine}
use prog.Wp.{Calls, Loops, WpFn, Tables}
use contract.Monad.{Fun}
use contract.Running.{tables, tables_of}
use sound.WpLaws.{WpFn-mono}
use types.Logic.{Logic}
use types.Kit.{‵, raw, ◌⊛◌, ◌$◌, ◌∵◌, !, qed, move, split, use0, suffices, done}
use types.Part.{agg}
use types.Run.{enter, returns, and_then, no_more}
use types.ByLocal.{alloc_all, pass_all, free_all, look_at, get, sets}
use denote.Exit.{yes}
use denote.RattleType.{RattleType, owns}
use denote.Param.{param, layouts}
use denote.Ref.{shr_vals, shr_Tells}
use denote.Shadow.{makes_shadow}
use denote.Signature.{plain, types_at}
use denote.Triple.Clauses.{Clauses, Ended, closing}
use denote.Triple.Entry.{alive}
use denote.Triple.Spec.{Meets, triple_of}
use denote.Triple.Table.{entered}
use denote.Triple.Walked.{says, Stays, stay_none_ref, Goes-none_ref, Walks, ends_at}
use denote.Triple.Walked.{walked, walk_Meets}
use Rattle.history.specs.contracts.history.History as History
use Rattle.history.specs.contracts.history.History.of as F
use Rattle.history.specs.contracts.history.History.of.Key.{name as #self}
use Rattle.history.proofs.history.History.of.Statement as stated
use Rattle.history.proofs.history.History.of.Code as code

module _ (T A B : RattleType) where
  abbrev args : Args
  args = layouts (a_type ∷ a_type ∷ a_type ∷ []) (T, (A, (B, tt)))

  abbrev function : Fn
  function = inst_fn args code.function

  abbrev ended : Ended
  ended = F.ended T A B

  abbrev S : RattleType
  S = History.the_row (param 0 T)

  abbrev stayed : Stays ended.signature.params ended.kept
  stayed = (
    stay_none_ref (0 ∷ []) tt (plain (λ _. param 1 A)) yes,
    (stay_none_ref (1 ∷ []) tt (plain (λ _. param 2 B)) yes, tt),
  )

  module _ {M : Type 1} {𝓤 : Ura M} (𝓛 : Logic 𝓤) (at_mem : Memory → SProp 𝓤) (run : Routine → Fun 𝓤) where
    open 𝓛 use {H}

    abbrev held : Clauses 𝓤 ended
    held = F.clauses T A B 𝓛 at_mem run

    walks : (C : Calls 𝓤 H) (Λ : Loops 𝓤 H) → Walks 𝓛 ended stayed (WpFn 𝓤 H C Λ function) held
    walks C Λ = walked 𝓛 ended stayed held (WpFn 𝓤 H C Λ function) (λ κs. (shr_vals, (shr_vals, tt)))
        (λ κs. (shr_Tells (named 0) κs.0 (param 1 A), (shr_Tells (named 1) κs.1.0 (param 2 B), tt)))
        (λ κs qs bounds a g are.
        let u : Val = vptr a.0.ref_ptr.0 a.0.ref_ptr.1 in
        let w : Val = vptr a.1.0.ref_ptr.0 a.1.0.ref_ptr.1 in
        let at : List Val × (List Val × Unit {0}) = (u ∷ [], (w ∷ [], tt)) in
        let toks : SProp 𝓤 = alive 𝓛 ended.signature κs qs in
        let made : S.Denot = record { of = record {}; items = g } in
        let v : Val = vstruct (vcons (vstruct vnil) vnil) in
        let O : Fml = S.own_val made (v ∷ []) in
        via 𝓤 _ (fst∗ 𝓤 _ ((held κs a).requires g)) (
        qed 𝓛 ((raw toks ⊛ ‵ (owns (types_at ended.signature.params κs) a at)) ∷ []) ∵ split ! $
        enter ! C Λ function (u ∷ w ∷ []) _ $
        alloc_all ! (λ l. pass_all ! refl ((tt, tt), ((tt, tt), tt)) $
        sets ! (agg ! (no_more !)) refl (tt, tt) $
        sets ! (agg ! (and_then ! (get ! refl) (no_more !))) refl (tt, (tt, tt)) $
        returns ! (look_at ! 0 refl) $ free_all ! refl $
        use0 𝓛 (‵ O) (makes_shadow 𝓛 O ((λ vss. (tt, ((λ uss. (tt, tt)), tt))), tt)
        (((vstruct vnil ∷ [], tt), (refl, ((tt, (refl, tt)), tt))), tt)) $
        suffices ! _ (ends_at 𝓛 ended stayed held ((κs, qs, bounds, a, at), g) v made (tt, (tt, tt)) (tt, (tt, tt))) $ says !
        refl $ move ! (1 ∷ 2 ∷ 0 ∷ []) $ done !)))

    meets : (𝓣 : Tables 𝓤 H) → Meets 𝓛 ended.signature (WpFn 𝓤 H 𝓣.C 𝓣.Λ function) (closing 𝓛 ended held)
    meets 𝓣 = walk_Meets 𝓛 ended stayed (
      Goes-none_ref 𝓛 5 (0 ∷ []) tt (plain (λ _. param 1 A)) yes,
      (Goes-none_ref 𝓛 5 (1 ∷ []) tt (plain (λ _. param 2 B)) yes, tt),
    ) held
        (WpFn 𝓤 H 𝓣.C 𝓣.Λ function) (WpFn-mono 𝓤 H 𝓛.laws 𝓣 function) (walks 𝓣.C 𝓣.Λ)

pub of_spec : {M : Type 1} → stated.statement M
unfolding tables_of
of_spec 𝓤 𝓛 𝓜 𝓡 wired T A B LT LA LB =
    let 𝓣 : Tables 𝓤 𝓛.H = tables_of 𝓤 𝓛.H 𝓜 (tables 𝓤 𝓛.H 𝓜 𝓡 𝓡.env) in
    entered 𝓤 𝓛.H (triple_of 𝓛 (ended T A B).signature (closing 𝓛 (ended T A B) (held T A B 𝓛 𝓜.mem 𝓡.returns))) 𝓣.C 𝓣.Λ
    (#self (args T A B)) (function T A B)
    (code.unfolded 𝓤 𝓛.H 𝓜 𝓡 wired (T, (A, (B, tt)))) (meets T A B 𝓛 𝓜.mem 𝓡.returns 𝓣)
