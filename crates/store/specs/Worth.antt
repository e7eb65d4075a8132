-- What values stand for, and what keeping, letting go and making them does to a region of texts. Assumes nothing: these are definitions; the laws
-- are proved.
use Rattle.std.specs.Prelude.{◌≡◌, ℕ, ◌+◌, ◌*◌, ◌<◌, ◌≤◌, ◌⊎◌, List, [], ◌++◌, length, Some, None, FitsSigned, slice_index}
use Rattle.std.specs.Int.{w64}
use Rattle.language.specs.Text
use Rattle.language.specs.Text.{text}
use Rattle.store.specs.declared.cells.Value.{Value}
use Rattle.store.specs.declared.cells.Value.TheVariants.{Unset, Number, Text, Short as InShort}
use Rattle.store.specs.Words.{bytes_of}
use Rattle.store.specs.Numbers.{number}
use Rattle.store.specs.Space.{Space, span}
use Rattle.store.specs.Model.{occ}
use Rattle.store.specs.Laws.{Texts, spent, spans}
use Rattle.store.specs.Values.{decode, kind_of, payload_of, worth, held_by, kept, let_go, Made, made}

-- what a value stands for where the text of each handle is known
abbrev pub meant : (ℕ → List ℕ) → Value → Text.Value
meant said Unset = text []
meant said (Number n) = number n
meant said (InShort b) = text (bytes_of b.len b.word)
meant said (Text h) = text (said h.index)

-- a number of the code fits 64 bits
abbrev pub Plain : Value → Type 0
Plain Unset = Unit {0}
Plain (Number n) = FitsSigned w64 n
Plain (InShort b) = Unit {0}
Plain (Text h) = Unit {0}

-- what a value holds is held
abbrev pub HeldIn : List ℕ → Value → Type 0
HeldIn hs v = (k : ℕ) → occ k (held_by v) ≤ occ k hs

-- there is a new value that stands for the text bs; the other texts are as they were
pub record New (T W : ℕ) (hs : List ℕ) (said : ℕ → List ℕ) (bs : List ℕ) (m : Made) : Type 0 where
  pub value : Value
  pub got : m.value ≡ Some value
  pub says : ℕ → List ℕ
  pub texts : Texts T W m.space (held_by value ++ hs) says
  pub others : (k : ℕ) → 1 ≤ occ k hs → says k ≡ said k
  pub means : meant says value ≡ text bs

-- there is none, since what is counted would be more than four times the words
pub record NoneNew (T W : ℕ) (hs : List ℕ) (said : ℕ → List ℕ) (bs : List ℕ) (m : Made) : Type 0 where
  pub got : m.value ≡ None
  pub full : 4 * W < spent said hs + (16 + length bs)
  pub texts : Texts T W m.space hs said

-- there is none, since the texts and the new one would need more words than there are
pub record NoWords (T W : ℕ) (hs : List ℕ) (said : ℕ → List ℕ) (bs : List ℕ) (m : Made) : Type 0 where
  pub got : m.value ≡ None
  pub full : W < spans said hs + span (length bs)
  pub texts : Texts T W m.space hs said

pub record ValueLaws (T W : ℕ) : Type 0 where
  pub back : (v : Value) → Plain v → decode (kind_of v) (payload_of v) ≡ v
  pub means : (s : Space) (hs : List ℕ) (said : ℕ → List ℕ) (v : Value) → Texts T W s hs said → HeldIn hs v → worth W s v ≡ meant said v
  pub keeps : (s : Space) (hs : List ℕ) (said : ℕ → List ℕ) (v : Value) → Texts T W s hs said → HeldIn hs v → length hs + 1 < 18446744073709551616 →
      Texts T W (kept W s v) (held_by v ++ hs) said
  pub drops : (s : Space) (hs hs' : List ℕ) (said : ℕ → List ℕ) (v : Value) → Texts T W s hs said → ((k : ℕ) → occ k hs ≡ occ k (held_by v ++ hs')) →
      Texts T W (let_go T W s v) hs' said
  pub makes : (s : Space) (hs : List ℕ) (said : ℕ → List ℕ) (bs : List ℕ) → Texts T W s hs said → W ≤ 4 * T → ((i : ℕ) → slice_index bs i < 256) →
      New T W hs said bs (made T W s bs) ⊎ NoneNew T W hs said bs (made T W s bs)

-- a new value, or no room for its text in words
unfoldable pub MakesByWords : (T W : ℕ) → Type 0
MakesByWords T W = (s : Space) (hs : List ℕ) (said : ℕ → List ℕ) (bs : List ℕ) → Texts T W s hs said → W ≤ 4 * T → ((i : ℕ) → slice_index bs i < 256) →
    New T W hs said bs (made T W s bs) ⊎ NoWords T W hs said bs (made T W s bs)
