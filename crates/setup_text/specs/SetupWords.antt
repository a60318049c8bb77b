-- The words with which a line of a setup begins.
use Rattle.std.specs.Prelude.{ℕ, List, [], ◌∷◌, codes, bytes_eq, Option}
use Rattle.std.specs.List.{find}
use Rattle.setup_text.specs.declared.setup_words.SetupWord.{SetupWord}
use Rattle.setup_text.specs.declared.setup_words.SetupWord.TheVariants.{BlockSize, BlockNr}
use Rattle.setup_text.specs.declared.setup_words.SetupWord.TheVariants.{FrameSize, FrameNr, Tov}
use Rattle.setup_text.specs.declared.setup_words.SetupWord.TheVariants.{Priv, Features, Cpu}
use Rattle.setup_text.specs.declared.setup_words.SetupWord.TheVariants.{Members, Mode, Flag, Key}
use Rattle.setup_text.specs.declared.setup_words.SetupWord.TheVariants.{Mac, Filter, Ticks, Out}
use Rattle.setup_text.specs.declared.setup_words.SetupWord.TheVariants.{Dump, SkipBad, Make}
use Rattle.setup_text.specs.declared.setup_words.SetupWord.TheVariants.{Workers}

-- how a setup spells each of them
abbrev pub name_of : SetupWord → List ℕ
name_of BlockSize = codes "block_size"
name_of BlockNr = codes "block_nr"
name_of FrameSize = codes "frame_size"
name_of FrameNr = codes "frame_nr"
name_of Tov = codes "tov"
name_of Priv = codes "priv"
name_of Features = codes "features"
name_of Cpu = codes "cpu"
name_of Members = codes "members"
name_of Mode = codes "mode"
name_of Flag = codes "flag"
name_of Key = codes "key"
name_of Mac = codes "mac"
name_of Filter = codes "filter"
name_of Ticks = codes "ticks"
name_of Out = codes "out"
name_of Dump = codes "dump"
name_of SkipBad = codes "skip_bad"
name_of Make = codes "make"
name_of Workers = codes "workers"

-- all of them
abbrev pub all_words : List SetupWord
all_words =
    BlockSize ∷ BlockNr ∷ FrameSize ∷ FrameNr ∷ Tov ∷ Priv ∷ Features ∷ Cpu ∷ Members ∷ Mode ∷ Flag
    ∷ Key ∷ Mac ∷ Filter
    ∷ Ticks ∷ Out ∷ Dump ∷ SkipBad ∷ Make ∷ Workers ∷ []

-- the setup word with this spelling
unfoldable pub word_named : List ℕ → Option SetupWord
word_named name = find (λ word. bytes_eq (name_of word) name) all_words
