-- How an operand begins, in memory.
use Rattle.std.proofs.Common.{◌≡◌, ℕ, ◌+◌, ◌<◌, ◌≤◌, Bool, true, List, ◌∷◌, Some, None, sym, ap, ◌∙◌, subst, arith}
use Rattle.language.specs.Program
use Rattle.language.specs.Program.{Term, none, Reads, rest, sees, sign, word}
use Rattle.lexer.specs.Memory.{cell, Kept}
use Rattle.parser.specs.declared.nodes.TermNode.{TermNode}
use Rattle.parser.specs.declared.frames.Frame.{Frame}
use Rattle.parser.specs.declared.frames.Spot.{Spot}
use Rattle.parser.specs.declared.frames.Turn.{Turn}
use Rattle.parser.specs.Nodes.{Tree}
use Rattle.parser.specs.Levels.{Enough}
use Rattle.parser.specs.Frames.{Begun, low, before, behind, FrameSays, Before, Room, effort, Pays, Pushed, Grown}
use Rattle.lexer.specs.Places.{fuel, toks}
use Rattle.parser.proofs.Keeping.{stack_kept}
use Rattle.lexer.specs.Marks.{TokensIn}
use Rattle.lexer.proofs.Reach.{rest_toks, rest_two, ahead, sees_ahead}
use Rattle.parser.proofs.Moves.{enough, low_fits, failed_goes, pushed_goes, grown_goes}

-- behind the first token
pub first_token : (bs : List ℕ) (p : ℕ) (t : Program.Token) (L R : List Program.Token → Reads Term) → toks bs p ≡ t ∷ rest (toks bs p) →
    ((us : List Program.Token) → Enough (fuel bs) (t ∷ us) → L (t ∷ us) ≡ R us) → L (toks bs p) ≡ R (toks bs (p + 1))
first_token bs p t L R e h = ap L e ∙ h (rest (toks bs p)) (subst (λ us. Enough (fuel bs) us) e (enough bs p)) ∙ ap R (rest_toks bs p)

pub enough_here : (bs : List ℕ) (p : ℕ) {t : Program.Token} → toks bs p ≡ t ∷ rest (toks bs p) → Enough (fuel bs) (t ∷ rest (toks bs p))
enough_here bs p e = subst (λ us. Enough (fuel bs) us) e (enough bs p)

module _ (bs m m₁ : List ℕ) (count : ℕ) (s : Spot) (room : Room count s.nodes 0 s) where
  pub begin_push : (f : Frame) (k : ℕ) (r : Turn) → Pushed m m₁ s f k r → 1 ≤ k → s.place + k ≤ count → (b : Begun) → FrameSays bs m s.nodes f b →
      ((fs : List Begun) → low fs ≤ 8 → before (fuel bs) fs (toks bs s.place) ≡ before (fuel bs) (b ∷ fs) (toks bs (s.place + k))) → Pays bs m m₁ count s.nodes (effort count s) (Before bs m s) (Some r)
  begin_push f k r w p q b x h =
      pushed_goes bs m m₁ count (effort count s) (Before bs m s) s f k r w
      (record { within = q; few = room.few; frames = omega (arith, room.frames); low = room.low; grown = omega arith; nodes = omega (arith, room.nodes) })
      (omega arith)
      (λ g y. (y.begun, b, y.stack, x, sym (h y.begun (low_fits bs m s.nodes s.depth y.begun y.stack)) ∙ y.means))

  pub begin_make : (x : TermNode) (b : Bool) (k : ℕ) (r : Turn) → Grown m m₁ s x b k 8 r → 1 ≤ k → s.place + k ≤ count → (a : Term) → Tree bs m₁ (s.nodes + 1) s.nodes a →
      ((fs : List Begun) → low fs ≤ 8 → before (fuel bs) fs (toks bs s.place) ≡ behind (fuel bs) fs 8 a (toks bs (s.place + k))) → Pays bs m m₁ count s.nodes (effort count s) (Before bs m s) (Some r)
  begin_make x b k r w p q a t h =
      grown_goes bs m m₁ count (effort count s) (Before bs m s) s x b k 8 r w (omega arith)
      (record { within = q; few = room.few; frames = omega (arith, room.frames); low = room.low; grown = omega arith; nodes = omega (arith, room.nodes) })
      (omega arith)
      (λ g y. (y.begun, a, y.stack, t, sym (h y.begun (low_fits bs m s.nodes s.depth y.begun y.stack)) ∙ y.means))

  -- a frame for the sign that is there, and one for a function that is built in, behind its bracket
  pub begin_sign : (d : ℕ) (f : Frame) (r : Turn) → TokensIn bs m count → Pushed m m₁ s f 1 r → toks bs s.place ≡ sign d ∷ rest (toks bs s.place) → (b : Begun) → FrameSays bs m s.nodes f b →
      ((fs : List Begun) → low fs ≤ 8 → (us : List Program.Token) → Enough (fuel bs) (sign d ∷ us) → before (fuel bs) fs (sign d ∷ us) ≡ before (fuel bs) (b ∷ fs) us) →
      Pays bs m m₁ count s.nodes (effort count s) (Before bs m s) (Some r)
  begin_sign d f r k w e b x h =
      let a : s.place < count = ahead bs m count s.place (sign d) (rest (toks bs s.place)) k e in
      begin_push f 1 r w (omega arith) (omega arith) b x (λ fs l. first_token bs s.place (sign d) (λ us. before (fuel bs) fs us) (λ us. before (fuel bs) (b ∷ fs) us) e (h fs l))

  pub begin_built_in : (w : List ℕ) (f : Frame) (r : Turn) → TokensIn bs m count → Pushed m m₁ s f 2 r → toks bs s.place ≡ word w ∷ rest (toks bs s.place) → sees 40 (toks bs (s.place + 1)) ≡ true → (b : Begun) → FrameSays bs m s.nodes f b →
      ((fs : List Begun) → low fs ≤ 8 → (us : List Program.Token) → Enough (fuel bs) (word w ∷ us) → sees 40 us ≡ true → before (fuel bs) fs (word w ∷ us) ≡ before (fuel bs) (b ∷ fs) (rest us)) →
      Pays bs m m₁ count s.nodes (effort count s) (Before bs m s) (Some r)
  begin_built_in w f r k q e t b x h =
      let a : s.place + 1 < count = sees_ahead bs m count (s.place + 1) 40 k t in
      begin_push f 2 r q (omega arith) (omega arith) b x (λ fs l.
      ap (λ us. before (fuel bs) fs us) e ∙ h fs l (rest (toks bs s.place)) (enough_here bs s.place e) (ap (sees 40) (rest_toks bs s.place) ∙ t)
      ∙ ap (λ us. before (fuel bs) (b ∷ fs) us) (ap rest (rest_toks bs s.place) ∙ rest_two bs s.place))

pub begin_fail : (bs m : List ℕ) (count : ℕ) (s : Spot) → ((fs : List Begun) → low fs ≤ 8 → before (fuel bs) fs (toks bs s.place) ≡ none) → Pays bs m m count s.nodes (effort count s) (Before bs m s) None
begin_fail bs m count s h = failed_goes bs m count s.nodes (effort count s) (Before bs m s) (λ g y. sym (h y.begun (low_fits bs m s.nodes s.depth y.begun y.stack)) ∙ y.means)

pub before_kept : (bs m m₁ : List ℕ) (s : Spot) (n₁ : ℕ) (g : Reads Term) → Kept 8448 s.nodes m m₁ → s.nodes ≤ n₁ → ((e : ℕ) → e < s.depth → cell m₁ (21120 + e) ≡ cell m (21120 + e)) → Before bs m s g → Before bs m₁ (record { place = s.place; depth = s.depth; nodes = n₁ }) g
before_kept bs m m₁ s n₁ g k l h y = record { begun = y.begun; stack = stack_kept bs m m₁ s.nodes n₁ k l s.depth y.begun h y.stack; means = y.means }
