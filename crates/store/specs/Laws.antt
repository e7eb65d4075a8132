-- What holds of a region of texts, for each number T of handles and W of words. Assumes nothing: these are definitions; the laws are proved.
use Rattle.std.specs.Prelude.{◌≡◌, ℕ, ◌+◌, ◌*◌, ◌/◌, ◌<◌, ◌≤◌, cond, ◌≢◌, ◌⊎◌, List, [], ◌∷◌, ◌++◌, length, Some, None, ◌==◌, slice_index}
use Rattle.store.specs.Words.{over}
use Rattle.store.specs.Space.{Space, Given, handle_of, span, allocated, compacted, raised, lowered, length_of, text_of, written, copied, emptied}
use Rattle.store.specs.Model.{Cell, extent, names, occ, Store, on, more, look, let_go, bytes, Held, held_bytes}

-- IN TERMS OF CELLS

-- a new cell of n bytes, with one holder
pub record Got (T W : ℕ) (H : List Cell) (n : ℕ) (g : Given) : Type 0 where
  pub cell : Cell
  pub handle : g.handle ≡ Some (handle_of cell.handle)
  pub below : cell.handle < T
  pub count : cell.count ≡ 1
  pub size : cell.size ≡ n
  pub wide : length cell.words ≡ n / 8 + 1
  pub new : occ cell.handle (names H) ≡ 0
  pub store : Store T W g.space (H ++ (cell ∷ []))

-- there is no room only if each handle is in use, or the texts and the new one need more than there is
pub record Full (T W : ℕ) (H : List Cell) (n : ℕ) (g : Given) : Type 0 where
  pub handle : g.handle ≡ None
  pub why : (length H ≡ T) ⊎ (W < extent H + span n)
  pub store : Store T W g.space H

-- the text h is p then; the others, and all counts and lengths, are as they were
pub record Became (h : ℕ) (p : List ℕ) (H G : List Cell) : Type 0 where
  pub others : (j : ℕ) → j ≢ h → look j G ≡ look j H
  pub count : (look h G).count ≡ (look h H).count
  pub size : (look h G).size ≡ (look h H).size
  pub text : bytes (look h G) ≡ p

pub record Laws (T W : ℕ) : Type 0 where
  pub empties : (s : Space) → length s.table ≡ T → length s.heap ≡ W → Store T W (emptied T s) []
  pub moves : (s : Space) (H : List Cell) → Store T W s H → Store T W (compacted T W s) H
  pub allocates : (s : Space) (H : List Cell) (n : ℕ) → Store T W s H → Got T W H n (allocated T W s n) ⊎ Full T W H n (allocated T W s n)
  pub has_room : (s : Space) (H : List Cell) (hs : List ℕ) (n : ℕ) → Store T W s H → Held H hs → held_bytes H hs + (16 + n) ≤ 4 * W → W ≤ 4 * T →
      Got T W H n (allocated T W s n)
  pub raises : (s : Space) (H : List Cell) (h : ℕ) → Store T W s H → 1 ≤ (look h H).count → (look h H).count + 1 < 18446744073709551616 → Store T W (raised W s h) (on h more H)
  pub lowers : (s : Space) (H : List Cell) (h : ℕ) → Store T W s H → 1 ≤ (look h H).count → Store T W (lowered T W s h) (let_go h H)
  pub measures : (s : Space) (H : List Cell) (h : ℕ) → Store T W s H → 1 ≤ (look h H).count → length_of W s h ≡ (look h H).size
  pub reads : (s : Space) (H : List Cell) (h : ℕ) → Store T W s H → 1 ≤ (look h H).count → text_of W s h ≡ bytes (look h H)
  pub writes : (s : Space) (H : List Cell) (h at : ℕ) (p : List ℕ) → Store T W s H → 1 ≤ (look h H).count → at + length p ≤ (look h H).size → ((i : ℕ) → slice_index p i < 256) →
      (G : List Cell) × Store T W (written W s h at p) G × Became h (over (bytes (look h H)) at p) H G

-- IN TERMS OF TEXTS: what the layers above see is the holders hs, and the text of each handle that has one; no cells, no places

pub record Texts (T W : ℕ) (s : Space) (hs : List ℕ) (text : ℕ → List ℕ) : Type 0 where
  pub cells : List Cell
  pub store : Store T W s cells
  pub held : Held cells hs
  pub says : (k : ℕ) → 1 ≤ occ k hs → bytes (look k cells) ≡ text k

abbrev pub changed : (ℕ → List ℕ) → ℕ → List ℕ → ℕ → List ℕ
changed text h p k = cond (k == h) p (text k)

-- what is counted for the holders: 16 and the bytes of its text for each
abbrev pub spent : (ℕ → List ℕ) → List ℕ → ℕ
spent text [] = 0
spent text (h ∷ hs) = 16 + length (text h) + spent text hs

-- there is a new text of n bytes, with one holder; they are what was there
pub record Fresh (T W : ℕ) (hs : List ℕ) (text : ℕ → List ℕ) (n : ℕ) (g : Given) : Type 0 where
  pub handle : ℕ
  pub got : g.handle ≡ Some (handle_of handle)
  pub new : occ handle hs ≡ 0
  pub was : List ℕ
  pub size : length was ≡ n
  pub texts : Texts T W g.space (handle ∷ hs) (changed text handle was)

-- there is none, since what is counted would be more than four times the words
pub record NoRoom (T W : ℕ) (hs : List ℕ) (text : ℕ → List ℕ) (n : ℕ) (g : Given) : Type 0 where
  pub got : g.handle ≡ None
  pub full : 4 * W < spent text hs + (16 + n)
  pub texts : Texts T W g.space hs text

-- the words that the texts of the holders need, for each holder
abbrev pub spans : (ℕ → List ℕ) → List ℕ → ℕ
spans text [] = 0
spans text (h ∷ hs) = span (length (text h)) + spans text hs

-- there is none, since the texts and the new one would need more words than there are
pub record Crowded (T W : ℕ) (hs : List ℕ) (text : ℕ → List ℕ) (n : ℕ) (g : Given) : Type 0 where
  pub got : g.handle ≡ None
  pub full : W < spans text hs + span n
  pub texts : Texts T W g.space hs text

pub record Interface (T W : ℕ) : Type 0 where
  pub empty : (s : Space) (text : ℕ → List ℕ) → length s.table ≡ T → length s.heap ≡ W → Texts T W (emptied T s) [] text
  pub new : (s : Space) (hs : List ℕ) (text : ℕ → List ℕ) (n : ℕ) → Texts T W s hs text → W ≤ 4 * T →
      Fresh T W hs text n (allocated T W s n) ⊎ NoRoom T W hs text n (allocated T W s n)
  pub hold : (s : Space) (hs : List ℕ) (text : ℕ → List ℕ) (h : ℕ) → Texts T W s hs text → 1 ≤ occ h hs → length hs + 1 < 18446744073709551616 →
      Texts T W (raised W s h) (h ∷ hs) text
  pub release : (s : Space) (hs hs' : List ℕ) (text : ℕ → List ℕ) (h : ℕ) → Texts T W s hs text → ((k : ℕ) → occ k hs ≡ occ k (h ∷ hs')) →
      Texts T W (lowered T W s h) hs' text
  pub measure : (s : Space) (hs : List ℕ) (text : ℕ → List ℕ) (h : ℕ) → Texts T W s hs text → 1 ≤ occ h hs → length_of W s h ≡ length (text h)
  pub view : (s : Space) (hs : List ℕ) (text : ℕ → List ℕ) (h : ℕ) → Texts T W s hs text → 1 ≤ occ h hs → text_of W s h ≡ text h
  pub fill : (s : Space) (hs : List ℕ) (text : ℕ → List ℕ) (h at : ℕ) (p : List ℕ) → Texts T W s hs text → 1 ≤ occ h hs → at + length p ≤ length (text h) → ((i : ℕ) → slice_index p i < 256) →
      Texts T W (written W s h at p) hs (changed text h (over (text h) at p))
  pub copy : (s : Space) (hs : List ℕ) (text : ℕ → List ℕ) (h at k : ℕ) → Texts T W s hs text → 1 ≤ occ h hs → 1 ≤ occ k hs → at + length (text k) ≤ length (text h) →
      Texts T W (copied W s h at k) hs (changed text h (over (text h) at (text k)))
  pub compact : (s : Space) (hs : List ℕ) (text : ℕ → List ℕ) → Texts T W s hs text → Texts T W (compacted T W s) hs text
  pub reorder : (s : Space) (hs hs' : List ℕ) (text : ℕ → List ℕ) → Texts T W s hs text → ((k : ℕ) → occ k hs ≡ occ k hs') → Texts T W s hs' text
  pub same : (s : Space) (hs : List ℕ) (text text' : ℕ → List ℕ) → Texts T W s hs text → ((k : ℕ) → 1 ≤ occ k hs → text k ≡ text' k) → Texts T W s hs text'

-- a new text, or no room for it in words
unfoldable pub NewByWords : (T W : ℕ) → Type 0
NewByWords T W = (s : Space) (hs : List ℕ) (text : ℕ → List ℕ) (n : ℕ) → Texts T W s hs text → W ≤ 4 * T →
    Fresh T W hs text n (allocated T W s n) ⊎ Crowded T W hs text n (allocated T W s n)

-- What is written over a text: all of it; or its front, and then what is behind
pub record Filled : Type 0 where
  pub whole : (d p : List ℕ) → length d ≡ length p → over d 0 p ≡ p
  pub both : (d p q : List ℕ) → length d ≡ length p + length q → over (over d 0 p) (length p) q ≡ p ++ q
  pub keeps : (d : List ℕ) (at : ℕ) (p : List ℕ) → length (over d at p) ≡ length d
