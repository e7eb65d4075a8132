-- Reading an expression, turn by turn.
use Rattle.std.proofs.Common.{◌≡◌, ℕ, zero, suc, ◌+◌, ◌-◌, ◌*◌, ◌<◌, ◌≤◌, Bool, true, false, leb, List, [], ◌∷◌, length, drop, Some, sym, refl, ◌∙◌, subst, arith, leb-false, leb-true}
use Rattle.language.specs.Program
use Rattle.language.specs.Program.{Term, term, got, Reads, cut_up}
use Rattle.lexer.specs.Memory.{Kept}
use Rattle.parser.specs.Frames.{Stack, resume, Met, Room, Roomy, Falls, Spends, Pays}
use Rattle.lexer.specs.Places.{fuel, toks, Ready}
use Rattle.parser.specs.Parsing.{Start, TermGot, left}
use Rattle.parser.specs.Readers.{Same}
use Rattle.parser.specs.declared.expressions.Reader.{Reader}
use Rattle.parser.specs.declared.frames.Spot.{Spot}
use Rattle.parser.specs.declared.frames.Turn.{Turn}
use Rattle.parser.specs.declared.frames.Turn.TheVariants.{Operand, After, Done}
use Rattle.parser.proofs.Climb.{got_only}
use Rattle.lexer.proofs.Within.{Within}
use Rattle.parser.proofs.Fuel.{WTerm}
use Rattle.lexer.proofs.Reach.{ready_kept}

-- so far: a turn that still comes to the expression from the place on
pub record Far (bs m₀ m : List ℕ) (count place nodes : ℕ) (t : Turn) : Type 0 where
  pub ready : Ready bs m count
  pub kept : Kept 0 nodes m₀ m
  pub room : Roomy count nodes (Some t)
  pub spends : Spends count nodes (6 * (count - place)) (Some t)
  pub meets : Met bs m (Some t) (term (fuel bs) (toks bs place))

pub far_start : (bs m : List ℕ) (count place nodes : ℕ) → Ready bs m count → Start count place nodes → Far bs m m count place nodes (Operand (record { place = place; depth = 0; nodes = nodes }))
unfolding Stack resume
far_start bs m count place nodes r s =
    record {
      ready = r;
      kept = λ j a b. refl;
      room = record { within = s.within; few = s.few; frames = omega arith; low = s.low; grown = omega arith; nodes = omega (arith, s.room) };
      spends = omega arith;
      meets = record { begun = []; stack = tt; means = got_only (term (fuel bs) (toks bs place)) };
    }

-- there is room from where a turn stands
pub room_here : (count n extra : ℕ) (s : Spot) → Room count n extra s → Room count s.nodes extra s
room_here count n extra s r = record { within = r.within; few = r.few; frames = r.frames; low = omega (arith, r.low, r.grown); grown = omega arith; nodes = r.nodes }

less_room : (count n n₁ : ℕ) (t : Turn) → n ≤ n₁ → 8448 ≤ n → Roomy count n₁ (Some t) → Roomy count n (Some t)
less_room count n n₁ (Operand s) l k r = record { within = r.within; few = r.few; frames = r.frames; low = k; grown = omega (arith, r.grown); nodes = r.nodes }
less_room count n n₁ (After s i h) l k r = record { within = r.within; few = r.few; frames = r.frames; low = k; grown = omega (arith, r.grown); nodes = r.nodes }
less_room count n n₁ (Done s i) l k r = record { within = r.within; few = r.few; frames = r.frames; low = k; grown = omega (arith, r.grown); nodes = r.nodes }

-- what is left to pay for more nodes: a turn behind an operand is worth half of one
spends_on : (count n n₁ e b : ℕ) (r : Turn) → 2 * n₁ + e ≤ 2 * n + 6 * b + 1 → Spends count n₁ e (Some r) → Spends count n (6 * b) (Some r)
spends_on count n n₁ e b (Operand s) l x = omega arith
spends_on count n n₁ e b (After s i h) l x = omega arith
spends_on count n n₁ e b (Done s i) l x = omega arith

pub far_on : (bs m₀ m m₁ : List ℕ) (count place nodes extra e : ℕ) (s : Spot) (t r : Turn) (P : Reads Term → Type 0) → length m₁ ≡ length m → count ≤ 4096 → Room count nodes extra s → ((g : Reads Term) → Met bs m (Some t) g → P g) →
    2 * s.nodes + e ≤ 2 * nodes + 6 * (count - place) + 1 → Pays bs m m₁ count s.nodes e P (Some r) → Far bs m₀ m count place nodes t → Far bs m₀ m₁ count place nodes r
far_on bs m₀ m m₁ count place nodes extra e s t r P l few room h paid g f =
    record {
      ready = ready_kept bs m m₁ count nodes (omega (arith, few, room.low)) l (λ j a b. g.goes.kept j a (omega (arith, room.grown))) f.ready;
      kept = λ j a b. g.goes.kept j a (omega (arith, room.grown)) ∙ f.kept j a b;
      room = less_room count nodes s.nodes r room.grown room.low g.goes.room;
      spends = spends_on count nodes s.nodes e (count - place) r paid g.spends;
      meets = g.goes.meets (term (fuel bs) (toks bs place)) (h (term (fuel bs) (toks bs place)) f.meets);
    }

-- one turn more of a reader that stays the same; t₁ is the turn that it stood at, by its constructor
pub turn_on : (r₀ r r₁ : Reader) (place nodes extra e : ℕ) (s : Spot) (t t₁ u : Turn) (P : Reads Term → Type 0) → r₀.count ≤ 4096 → t ≡ t₁ → Same r₀ r → Same r r₁ →
    (Roomy r₀.count nodes (Some t₁) → Room r₀.count nodes extra s) →
    (Spends r₀.count nodes (6 * (r₀.count - place)) (Some t₁) → 2 * s.nodes + e ≤ 2 * nodes + 6 * (r₀.count - place) + 1) →
    ((g : Reads Term) → Met r₀.text.now r.work.now (Some t₁) g → P g) →
    Pays r₀.text.now r.work.now r₁.work.now r₀.count s.nodes e P (Some u) →
    Far r₀.text.now r₀.work.now r.work.now r₀.count place nodes t →
    record { same : Same r₀ r₁; far : Far r₀.text.now r₀.work.now r₁.work.now r₀.count place nodes u }
turn_on r₀ r r₁ place nodes extra e s t t₁ u P few is x y room paid h pays far =
    let f = subst (λ z. Far r₀.text.now r₀.work.now r.work.now r₀.count place nodes z) is far in
    record {
      same = record { text = y.text ∙ x.text; area = y.area ∙ x.area; count = y.count ∙ x.count };
      far = far_on r₀.text.now r₀.work.now r.work.now r₁.work.now r₀.count place nodes extra e s t₁ u P (r₁.ready.long ∙ sym r.ready.long) few (room f.room) h (paid f.spends) pays f;
    }

pub falls_left : (count e : ℕ) (r : Turn) → Falls count e (Some r) → left count r < e + 1
falls_left count e (Operand s) h = omega arith
falls_left count e (After s i k) h = omega arith
falls_left count e (Done s i) h = omega arith

drop_more : (ts : List Program.Token) (p q : ℕ) → q ≤ p → length (drop p ts) ≤ length (drop q ts)
drop_more ts p zero h = first ts p
  where
    first : (us : List Program.Token) (k : ℕ) → length (drop k us) ≤ length us
    first us zero = omega arith
    first [] (suc k) = omega arith
    first (u ∷ us) (suc k) = omega (arith, first us k)
drop_more [] zero (suc q) h = absurd (omega arith)
drop_more [] (suc p) (suc q) h = omega arith
drop_more (t ∷ ts) zero (suc q) h = absurd (omega arith)
drop_more (t ∷ ts) (suc p) (suc q) h = drop_more ts p q (omega arith)

-- what leaves fewer tokens goes on
pub goes_on : {A : Type 0} (bs : List ℕ) (p q : ℕ) (x : A) (g : Reads A) → Within (length (toks bs p)) g → g ≡ got x (toks bs q) → p < q
goes_on bs p q x g w e = go (leb q p) refl
  where
    less : length (toks bs q) < length (toks bs p)
    less = subst (λ h. Within (length (toks bs p)) h) e w

    go : (b : Bool) → leb q p ≡ b → p < q
    go true t = absurd (omega (arith, less, drop_more (cut_up bs) p q (leb-true q p t)))
    go false t = leb-false q p t

pub far_done : (bs m₀ m : List ℕ) (count place nodes : ℕ) (s : Spot) (i : ℕ) → Far bs m₀ m count place nodes (Done s i) → TermGot bs m count place nodes (record { node = i; place = s.place; nodes = s.nodes })
far_done bs m₀ m count place nodes s i f =
    let w = f.meets in
    record {
      operand = w.operand;
      tree = w.tree;
      means = sym w.means;
      onward = record {
        on = goes_on bs place s.place w.operand (term (fuel bs) (toks bs place)) (WTerm (fuel bs) (toks bs place)) (sym w.means);
        within = f.room.within;
        grown = f.room.grown;
        room = omega (arith, f.room.nodes);
      };
    }

-- and its nodes are paid for
pub far_paid : (bs m₀ m : List ℕ) (count place nodes : ℕ) (s : Spot) (i : ℕ) → Far bs m₀ m count place nodes (Done s i) → s.nodes + 1 + 3 * place ≤ nodes + 3 * s.place
far_paid bs m₀ m count place nodes s i f =
    let on : place < s.place = goes_on bs place s.place f.meets.operand (term (fuel bs) (toks bs place)) (WTerm (fuel bs) (toks bs place)) (sym f.meets.means) in
    omega (arith, f.room.within, f.spends)
