-- Texts that were read one after the other.
use Rattle.std.proofs.Common.{Bool, List, Option, [], subst, ℕ, ◌++◌, ◌+◌, ◌∷◌}
use Rattle.std.specs.Prelude.{Err, Result}
use Rattle.tap_outside.proofs.Taken.{none_open, none_open_then, took_none, took_then}
use Rattle.tap_outside.specs.Contents.{Contents}
use Rattle.tap_outside.specs.Counts.{RoseBy}
use Rattle.tap_outside.specs.Records.{NoneOpen}
use Rattle.tap_outside.specs.Seen.{Entry, StoreSeen}
use Rattle.tap_reading.specs.Fronts.{CantRead, RanOut, ReadTexts, text_entry}
use Rattle.tap_reading.specs.Readers.{Refuses, Says}
use Rattle.tap_running.proofs.Counted.{unfailed_none}
use Rattle.tap_running.proofs.Stores.{held_same, rose_earlier, unfailed_then}
use Rattle.tap_running.specs.Texts.{CantReadNext}

pub read_none : (a : StoreSeen) → ReadTexts a a []
read_none a = record { unfailed = unfailed_none a; took = took_none a.sources }

pub read_then : (a b c : StoreSeen) (xs ys : List Entry) → ReadTexts a b xs → ReadTexts b c ys
    → ReadTexts a c (xs ++ ys)
read_then a b c xs ys h k = record {
  unfailed = unfailed_then a b c h.unfailed k.unfailed;
  took = took_then a.sources b.sources c.sources xs ys h.took k.took;
}

pub refuses_earlier : {A E : Type 0} (reader : List ℕ → Result A E) (wanted : E → Bool)
    (old mid new : StoreSeen) (texts : List Entry) (name : List ℕ) (error : E)
    → ReadTexts old mid texts → Refuses reader wanted [] mid new name error
    → Refuses reader wanted texts old new name error
refuses_earlier reader wanted old mid new texts name error before h = record {
  text = h.text;
  texts = read_then old mid new texts (text_entry name h.text ∷ []) before h.texts;
  says = subst (λ (held : Option Contents). Says reader held name h.text (Err error))
      (held_same old mid before.unfailed.only) h.says;
  not_memory = h.not_memory;
}

pub unread_next : (start old new : StoreSeen) (texts : List Entry) (name : List ℕ)
    → ReadTexts start old texts → CantRead old new name → CantReadNext start new texts name
unread_next start old new texts name read unread =
    record { before = old; read_is = read; unread = unread }

-- memory ran out after these texts
pub ran_out_later : (start old new : StoreSeen) (texts : List Entry) → ReadTexts start old texts
    → RanOut old new → RanOut start new
ran_out_later start old new texts read h = record {
  unfailed = unfailed_then start old new read.unfailed h.unfailed;
  closed = none_open_then start.sources old.sources new.sources
      (none_open start.sources old.sources texts read.took) h.closed;
}

-- comes only where reading failed
pub next_rose : (old new : StoreSeen) (texts : List Entry) (name : List ℕ)
    → CantReadNext old new texts name → RoseBy 1 old.read_faults new.read_faults
next_rose old new texts name h =
    rose_earlier 1 old h.before new h.read_is.unfailed.only h.unread.rose

pub read_closed : (old new : StoreSeen) (texts : List Entry) → ReadTexts old new texts
    → NoneOpen old.sources new.sources
read_closed old new texts read = none_open old.sources new.sources texts read.took

pub next_closed : (old new : StoreSeen) (texts : List Entry) (name : List ℕ)
    → CantReadNext old new texts name → NoneOpen old.sources new.sources
next_closed old new texts name h =
    none_open_then old.sources h.before.sources new.sources (read_closed old h.before texts h.read_is)
    (none_open h.before.sources new.sources _ h.unread.took)
