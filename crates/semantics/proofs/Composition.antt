-- From the steps of an engine to the whole promise. Each step of the engine follows the live run of the program; so at each act there is a place of
-- that run which memory stands for, with what was told until then and what is written. That nothing wrong is ever written, and what an end or an ask
-- owes, is read off the run at this place. That everything comes some time goes by counting: as long as the run makes no step, pieces, the end, or what
-- is still to be written become fewer.
use Rattle.std.proofs.Common.{◌≡◌, ℕ, zero, suc, ◌+◌, ◌-◌, ◌*◌, ◌<◌, ◌≤◌, Bool, true, false, ◌&&◌, eqb, ltb, leb, ◌⊎◌, List, [], ◌∷◌, ◌++◌, length, take, sym, refl, ap, ◌∙◌, subst, inl, inr, append_assoc, append-nil, le_refl, add-zero, arith, length-append, lt-ltb, eqb-true, le-leb, leb-true}
use Rattle.std.proofs.lemmas.Bool.{and_parts}
use lib.Seq.{take-append_seam}
use Rattle.language.specs.Text.{pick, or, flat, every}
use Rattle.language.specs.Program.{Program}
use Rattle.language.specs.Meaning.{State, Went, went, wrong, unfinished, state_of, outcome, so_far}
use Rattle.language.specs.Run.{Engine, Event, started, bytes, no_more, next, Act, more, write, done, refused, Ran, ran, a_row, first_piece, other_pieces, one_act, came, runs, run_of}
use Rattle.language.specs.Promise.{Beginning, EndedAs, over as is_over, NoRoom, Right}
use Rattle.semantics.specs.Stack.{times}
use Rattle.semantics.specs.Code.{code, entries}
use Rattle.semantics.specs.Lines.{Run, done_by, run_step, run_state, run, Live, live, over, waits, follow, live_state, live_out, live_start, shut, told, Goes, Reached, at_start, piece_came, end_told}
use Rattle.semantics.specs.Invariants.{Fault, Proper, all_done, exited, faulted, cut_off}
use Rattle.semantics.specs.Engine.{DoneWith, RefusedWith, Comes, Waiting, Over, Full, Long}
use Rattle.semantics.proofs.Steps.{times_add}
use Rattle.semantics.proofs.Programs.{Ends, finishes, lasts, ends_outcome, back, over_is, meets, room, later, done_later}
use Rattle.semantics.proofs.Pieces.{view, view_state, wait_open, wait_out, long_view, reached_run, reached_waits, reached_goes, goes_shut}
use Rattle.semantics.proofs.Endings.{outcome_proper}

abbrev all_of : List (List ℕ) → List ℕ
all_of ps = flat (λ b. b) ps

flat_append : (ps qs : List (List ℕ)) → all_of (ps ++ qs) ≡ all_of ps ++ all_of qs
flat_append [] qs = refl
flat_append (p ∷ ps) qs = ap (λ z. p ++ z) (flat_append ps qs) ∙ sym (append_assoc p (all_of ps) (all_of qs))

row_sum : (ps : List (List ℕ)) → every a_row ps ≡ true → length (all_of ps) ≤ 4096 * length ps
row_sum [] h = omega arith
row_sum (q ∷ ps) h =
    let a = and_parts (a_row q) (every a_row ps) h in
    let l : length q ≤ 4096 = leb-true (length q) 4096 (and_parts (leb (length q) 4096) (every (λ b. ltb b 256) q) a.0).0 in
    omega (arith, row_sum ps a.1, length-append q (all_of ps))

begin_length : (xs ys : List ℕ) → Beginning xs ys → length xs ≤ length ys
begin_length xs ys h = omega (arith, ap length h.1, length-append xs h.0)

begin_trans : (xs ys zs : List ℕ) → Beginning xs ys → Beginning ys zs → Beginning xs zs
begin_trans xs ys zs a b = (a.0 ++ b.0, b.1 ∙ ap (λ x. x ++ b.0) a.1 ∙ append_assoc xs a.0 b.0)

begin_all : {xs ys : List ℕ} → xs ≡ ys → Beginning xs ys
begin_all {xs} e = ([], sym e ∙ sym (append-nil xs))

-- of two beginnings the shorter begins the other
shorter : (xs ys zs : List ℕ) → Beginning xs zs → Beginning ys zs → length xs ≤ length ys → Beginning xs ys
shorter [] ys zs a b h = (ys, refl)
shorter (x ∷ xs) [] zs a b h = absurd (omega arith)
shorter (x ∷ xs) (y ∷ ys) [] a b h = let z : ◌≡◌ {A = ℕ} 0 1 = cc a.1 in absurd (omega arith)
shorter (x ∷ xs) (y ∷ ys) (z ∷ zs) a b h =
    let e₀ : zs ≡ xs ++ a.0 = cc a.1 in
    let e₁ : zs ≡ ys ++ b.0 = cc b.1 in
    let e₂ : x ≡ y = cc (a.1, b.1) in
    let r = shorter xs ys zs (a.0, e₀) (b.0, e₁) (omega arith) in
    (r.0, cc (r.1, e₂))

pick_none : (a : Bool) (g : ℕ) → g + pick a 0 0 ≡ g
pick_none true g = add-zero g
pick_none false g = add-zero g

pub told_out : (ev : Event) (x : Live) → live_out (told ev x) ≡ live_out x
told_out (started t) x = refl
told_out (bytes q) (live g c b z) = refl
told_out (bytes q) (over w z) = refl
told_out no_more (live g c b z) = refl
told_out no_more (over w z) = refl
told_out next x = refl

told_shut : (q : List ℕ) (x : Live) → shut (told (bytes q) x) ≡ shut x
told_shut q (live g c b z) = refl
told_shut q (over w z) = refl

told_end : (x : Live) → shut (told no_more x) ≡ true
told_end (live g c b z) = refl
told_end (over w z) = refl

-- a fault is told by a number of its own
fault_range : (k : ℕ) → Fault k → (1 ≤ k) × (k < 100000)
fault_range k h = by_first (eqb k 3) (eqb k 4) (eqb k 5) (eqb k 6) (eqb k 7) (eqb k 9) refl refl refl refl refl refl h
  where
    is : (j : ℕ) → eqb k j ≡ true → 1 ≤ j → j < 100000 → (1 ≤ k) × (k < 100000)
    is j e a b = let i : k ≡ j = eqb-true k j e in (omega arith, omega arith)

    by_first : (a b c d e f : Bool) → eqb k 3 ≡ a → eqb k 4 ≡ b → eqb k 5 ≡ c → eqb k 6 ≡ d → eqb k 7 ≡ e → eqb k 9 ≡ f →
        or a (or b (or c (or d (or e (or f false))))) ≡ true → (1 ≤ k) × (k < 100000)
    by_first true b c d e f i j l m n o h = is 3 i (omega arith) (omega arith)
    by_first false true c d e f i j l m n o h = is 4 j (omega arith) (omega arith)
    by_first false false true d e f i j l m n o h = is 5 l (omega arith) (omega arith)
    by_first false false false true e f i j l m n o h = is 6 m (omega arith) (omega arith)
    by_first false false false false true f i j l m n o h = is 7 n (omega arith) (omega arith)
    by_first false false false false false true i j l m n o h = is 9 o (omega arith) (omega arith)
    by_first false false false false false false i j l m n o h = let y : ◌≡◌ {A = ℕ} 0 1 = cc in absurd (omega arith)

-- What a step of an engine may do, where R m x w says that memory m stands for the run at x and w is all that was written since the start.
module _ (p : Program) (R : List ℕ → Live → List ℕ → Type 0) where
  pub record Asked (x : Live) (w m : List ℕ) : Type 0 where
    pub k : ℕ
    pub y : Live
    pub goes : Goes p k x y
    pub rel : R m y w
    pub waiting : Waiting p y w

  -- an empty row is written only after so many steps, with nothing left to be written
  pub record Wrote (least : ℕ) (x : Live) (w bs m : List ℕ) : Type 0 where
    pub k : ℕ
    pub y : Live
    pub goes : Goes p k x y
    pub rel : R m y (w ++ bs)
    pub row : a_row bs ≡ true
    pub begins : Beginning (w ++ bs) (live_out y)
    pub forth : bs ≡ [] → (least ≤ k) × (w ≡ live_out y)

  abbrev pub Does : ℕ → Live → List ℕ → List ℕ → Act → Type 0
  Does least x w m more = Asked x w m
  Does least x w m (write bs) = Wrote least x w bs m
  Does least x w m (done j) = Over p x w (DoneWith j)
  Does least x w m (refused j) = Over p x w (RefusedWith j) ⊎ (((j ≡ 8) × Full p x w) ⊎ ((j ≡ 7) × Long p x w))

  pub record Stepping (e : Engine) : Type 0 where
    pub on_next : (m w : List ℕ) (x : Live) → R m x w → Comes p x → Does 1 x w (e.step m next).memory (e.step m next).act
    pub on_bytes : (m w q : List ℕ) (x : Live) → R m x w → Waiting p x w → a_row q ≡ true → Comes p x → Comes p (told (bytes q) x) →
        Does 1 (told (bytes q) x) w (e.step m (bytes q)).memory (e.step m (bytes q)).act
    pub on_no_more : (m w : List ℕ) (x : Live) → R m x w → Waiting p x w → Comes p x → Comes p (told no_more x) →
        Does 1 (told no_more x) w (e.step m no_more).memory (e.step m no_more).act

abbrev piece_of : Event → List (List ℕ)
piece_of (started t) = []
piece_of (bytes q) = q ∷ []
piece_of no_more = []
piece_of next = []

abbrev open_of : Bool → ℕ
open_of true = 0
open_of false = 1

-- what becomes less as long as the run makes no step
abbrev size : List (List ℕ) → List ℕ → Live → ℕ
size ps w x = length ps + open_of (shut x) + (length (live_out x) - length w)

-- what an engine does next with an act
abbrev Going : Type 0
Going = List ℕ → Event → List (List ℕ) → List ℕ → ℕ → Bool → Ran

module _ (p : Program) (e : Engine) (R : List ℕ → Live → List ℕ → Type 0) (st : Stepping p R e) (ps₀ : List (List ℕ)) (rows₀ : every a_row ps₀ ≡ true) (many₀ : length ps₀ ≤ 4294967296) where
  abbrev bs₀ : List ℕ
  bs₀ = all_of ps₀

  -- g pieces have been told, the pieces ps are left, the run is at x after n steps, and w is written
  record At (ps : List (List ℕ)) (w : List ℕ) (g n : ℕ) (x : Live) : Type 0 where
    qs : List (List ℕ)
    pieces : ps₀ ≡ qs ++ ps
    count : length qs ≡ g
    reached : Reached p (all_of qs) n x
    closed : shut x ≡ true → ps ≡ []
    begins : Beginning w (live_out x)
    rows : every a_row ps ≡ true

  at_bytes : {ps : List (List ℕ)} {w : List ℕ} {g n : ℕ} {x : Live} (a : At ps w g n x) → bs₀ ≡ all_of a.qs ++ all_of ps
  at_bytes {ps} a = ap all_of a.pieces ∙ flat_append a.qs ps

  at_comes : {ps : List (List ℕ)} {w : List ℕ} {g n : ℕ} {x : Live} → At ps w g n x → Comes p x
  at_comes {ps} {n = n} a =
      record { so_far = all_of a.qs; made = n; reached = a.reached; few = omega (arith, row_sum ps₀ rows₀, ap length (at_bytes a), length-append (all_of a.qs) (all_of ps)) }

  at_run : {ps : List (List ℕ)} {w : List ℕ} {g n : ℕ} {x : Live} → At ps w g n x → run p bs₀ n ≡ view false (all_of ps) x
  at_run {ps} {n = n} a = ap (λ u. run p u n) (at_bytes a) ∙ reached_run p a.reached (all_of ps) (λ h. ap all_of (a.closed h))

  at_state : {ps : List (List ℕ)} {w : List ℕ} {g n : ℕ} {x : Live} → At ps w g n x → run_state (run p bs₀ n) ≡ live_state x
  at_state {ps} {x = x} a = ap run_state (at_run a) ∙ view_state false (all_of ps) x

  -- some steps further
  at_goes : {ps : List (List ℕ)} {w : List ℕ} {g n : ℕ} {x : Live} (w₁ : List ℕ) (k : ℕ) (y : Live) → At ps w g n x → Goes p k x y → Beginning w₁ (live_out y) → At ps w₁ g (n + k) y
  at_goes {n = n} {x} w₁ k y a h i =
      record { qs = a.qs; pieces = a.pieces; count = a.count; reached = reached_goes p k n x a.reached h; closed = λ z. a.closed (sym (goes_shut p k x y h) ∙ z); begins = i; rows = a.rows }

  abbrev Tells : Event → Bool → List (List ℕ) → Live → List ℕ → Type 0
  Tells (started t) a ps x w = ⊥
  Tells (bytes q) a ps x w = (a ≡ true) × Waiting p x w
  Tells no_more a ps x w = (a ≡ true) × Waiting p x w × (ps ≡ [])
  Tells next a ps x w = a ≡ false

  -- before a step
  record Pos (m : List ℕ) (ev : Event) (ps : List (List ℕ)) (w : List ℕ) (g : ℕ) (a : Bool) (n : ℕ) (x : Live) : Type 0 where
    rel : R m x w
    tells : Tells ev a ps x w
    here : At (piece_of ev ++ ps) w g n x

  tell_bytes : (q : List ℕ) (ps : List (List ℕ)) (w : List ℕ) (g n : ℕ) (x : Live) → Waiting p x w → At (q ∷ ps) w g n x → At ps w (g + 1) n (told (bytes q) x)
  tell_bytes q ps w g n x h a =
      let r = and_parts (a_row q) (every a_row ps) a.rows in
      record {
        qs = a.qs ++ q ∷ [];
        pieces = a.pieces ∙ sym (append_assoc a.qs (q ∷ []) ps);
        count = length-append a.qs (q ∷ []) ∙ ap (λ k. k + 1) a.count;
        reached = piece_came q a.reached h.1 (and_parts (leb (length q) 4096) (every (λ b. ltb b 256) q) r.0).1 (flat_append a.qs (q ∷ []) ∙ ap (λ k. all_of a.qs ++ k) (append-nil q)) refl;
        closed = λ t. let y : ◌≡◌ {A = Bool} true false = sym t ∙ told_shut q x ∙ wait_open p x h.1 in let z : ◌≡◌ {A = ℕ} 0 1 = cc in absurd (omega arith);
        begins = rw (told_out (bytes q) x) a.begins;
        rows = r.1;
      }

  tell_end : (w : List ℕ) (g n : ℕ) (x : Live) → Waiting p x w → At [] w g n x → At [] w g n (told no_more x)
  tell_end w g n x h a =
      record { qs = a.qs; pieces = a.pieces; count = a.count; reached = end_told a.reached h.1 refl; closed = λ t. refl; begins = rw (told_out no_more x) a.begins; rows = refl }

  tell : {m : List ℕ} (ev : Event) {ps : List (List ℕ)} {w : List ℕ} {g : ℕ} {a : Bool} {n : ℕ} {x : Live} → Pos m ev ps w g a n x → At ps w (g + pick a (came ev) 0) n (told ev x)
  tell (started t) h = absurd h.tells
  tell (bytes q) {ps} {w} {g} {n = n} {x} h = subst (λ c. At ps w (g + pick c 1 0) n (told (bytes q) x)) (sym h.tells.0) (tell_bytes q ps w g n x h.tells.1 h.here)
  tell no_more {ps} {w} {g} {a} {n} {x} h =
      subst (λ k. At ps w k n (told no_more x)) (sym (pick_none a g))
      (subst (λ k. At k w g n (told no_more x)) (sym h.tells.2) (tell_end w g n x h.tells.1 (subst (λ k. At k w g n x) h.tells.2 h.here)))
  tell next {ps} {w} {g} {a} {n} {x} h = subst (λ k. At ps w k n x) (sym (pick_none a g)) h.here

  -- An act after which the run goes on.
  record Go (least : ℕ) (ps : List (List ℕ)) (w : List ℕ) (g n : ℕ) (x : Live) (m : List ℕ) (act : Act) : Type 0 where
    m₁ : List ℕ
    ev₁ : Event
    ps₁ : List (List ℕ)
    w₁ : List ℕ
    a₁ : Bool
    n₁ : ℕ
    x₁ : Live
    is : (go : Going) → one_act go ps w g m act ≡ go m₁ ev₁ ps₁ w₁ g a₁
    pos : Pos m₁ ev₁ ps₁ w₁ g a₁ n₁ x₁
    far : n ≤ n₁
    forth : 1 ≤ least → (n < n₁) ⊎ (size ps₁ w₁ (told ev₁ x₁) < size ps w x)
    flush : (w₁ ≡ live_out x₁) ⊎ (length w < length w₁)
    at_end : 1 ≤ least → (v : Went) (z : Bool) → x ≡ over v z → length w < length w₁

  -- an end: as the run ended, or for want of room
  abbrev How : ℕ → Ran → Type 0
  How j r = ((v : Went) × (run p bs₀ j ≡ done_by v) × EndedAs v r × (r.written ≡ (state_of v).out))
      ⊎ ((r.end ≡ 1008) × (r.written ≡ (run_state (run p bs₀ j)).out) × (262144 < (run_state (run p bs₀ j)).heavy))

  record Ending (r : Ran) : Type 0 where
    quiet : r.asks ≡ false
    j : ℕ
    small : r.end < 9999999
    how : How j r

  record Stop (ps : List (List ℕ)) (w : List ℕ) (g : ℕ) (m : List ℕ) (act : Act) : Type 0 where
    r : Ran
    is : (go : Going) → one_act go ps w g m act ≡ r
    ending : Ending r

  stays_over : (k : ℕ) (v : Went) (z : Bool) (y : Live) → Goes p k (over v z) y → (k ≡ 0) × (y ≡ over v z)
  stays_over zero v z y h = (refl, sym h)
  stays_over (suc k) v z y h = let y : ◌≡◌ {A = ℕ} 0 1 = cc h.1 in absurd (omega arith)

  over_waits : {s : State} (v : Went) (z : Bool) (y : Live) → y ≡ over v z → follow p y ≡ waits s → ⊥
  over_waits {s} v z y i h = let a : follow p (over v z) ≡ waits s = ap (λ c. follow p c) (sym i) ∙ h in let b : ◌≡◌ {A = ℕ} 0 1 = cc in omega arith

  -- it asks
  ask_forth : (ps : List (List ℕ)) (w : List ℕ) (n : ℕ) (x : Live) (k : ℕ) (y : Live) → Goes p k x y → shut y ≡ false → w ≡ live_out y →
      (n < n + k) ⊎ (size (other_pieces ps) w (told (first_piece ps) y) < size ps w x)
  ask_forth ps w n x (suc k) y h i o = inl (omega arith)
  ask_forth [] w n x zero y h i o =
      let a : open_of (shut (told no_more y)) ≡ 0 = ap open_of (told_end y) in
      let b : open_of (shut x) ≡ 1 = ap (λ z. open_of (shut z)) h ∙ ap open_of i in
      let c : length (live_out (told no_more y)) ≡ length w = ap length (told_out no_more y ∙ sym o) in
      inr (omega arith)
  ask_forth (q ∷ ps) w n x zero y h i o =
      let a : open_of (shut (told (bytes q) y)) ≡ 1 = ap open_of (told_shut q y ∙ i) in
      let b : open_of (shut x) ≡ 1 = ap (λ z. open_of (shut z)) h ∙ ap open_of i in
      let c : length (live_out (told (bytes q) y)) ≡ length w = ap length (told_out (bytes q) y ∙ sym o) in
      inr (omega arith)

  ask_pos : (ps : List (List ℕ)) {w : List ℕ} {g n : ℕ} {y : Live} {m : List ℕ} → R m y w → Waiting p y w → At ps w g n y → Pos m (first_piece ps) (other_pieces ps) w g true n y
  ask_pos [] r h a = record { rel = r; tells = (refl, h, refl); here = a }
  ask_pos (q ∷ ps) r h a = record { rel = r; tells = (refl, h); here = a }

  asks : (least : ℕ) (ps : List (List ℕ)) (w : List ℕ) (g n : ℕ) (x : Live) (m : List ℕ) → At ps w g n x → Asked p R x w m → Go least ps w g n x m more
  unfolding one_act
  asks least ps w g n x m a d =
      record {
        m₁ = m;
        ev₁ = first_piece ps;
        ps₁ = other_pieces ps;
        w₁ = w;
        a₁ = true;
        n₁ = n + d.k;
        x₁ = d.y;
        is = λ go. refl;
        pos = ask_pos ps d.rel d.waiting (at_goes w d.k d.y a d.goes (begin_all d.waiting.2));
        far = omega arith;
        forth = λ u. ask_forth ps w n x d.k d.y d.goes (wait_open p d.y d.waiting.1) d.waiting.2;
        flush = inl d.waiting.2;
        at_end = λ u v z i. absurd (over_waits v z d.y (stays_over d.k v z d.y (subst (λ c. Goes p d.k c d.y) i d.goes)).1 d.waiting.1);
      }

  -- it writes
  write_forth : (least : ℕ) (ps : List (List ℕ)) (w bs : List ℕ) (n : ℕ) (x : Live) (k : ℕ) (y : Live) → Goes p k x y → Beginning (w ++ bs) (live_out y) →
      (bs ≡ [] → (least ≤ k) × (w ≡ live_out y)) → 1 ≤ least → (n < n + k) ⊎ (size ps (w ++ bs) y < size ps w x)
  write_forth least ps w bs n x (suc k) y h b i u = inl (omega arith)
  write_forth least ps w [] n x zero y h b i u = let z : least ≤ 0 = (i refl).0 in absurd (omega arith)
  write_forth least ps w (c ∷ bs) n x zero y h b i u =
      let s : length (live_out x) ≡ length (live_out y) = ap (λ z. length (live_out z)) h in
      let o : open_of (shut x) ≡ open_of (shut y) = ap (λ z. open_of (shut z)) h in
      inr (omega (arith, length-append w (c ∷ bs), begin_length (w ++ c ∷ bs) (live_out y) b))

  write_flush : (least k : ℕ) (w bs : List ℕ) (y : Live) → (bs ≡ [] → (least ≤ k) × (w ≡ live_out y)) → (w ++ bs ≡ live_out y) ⊎ (length w < length (w ++ bs))
  write_flush least k w [] y i = inl (append-nil w ∙ (i refl).1)
  write_flush least k w (c ∷ bs) y i = inr (omega (arith, length-append w (c ∷ bs)))

  write_end : (least k : ℕ) (w bs : List ℕ) (y : Live) → (bs ≡ [] → (least ≤ k) × (w ≡ live_out y)) → 1 ≤ least → k ≡ 0 → length w < length (w ++ bs)
  write_end least k w [] y i u h = let z : least ≤ k = (i refl).0 in absurd (omega arith)
  write_end least k w (c ∷ bs) y i u h = omega (arith, length-append w (c ∷ bs))

  writes : (least : ℕ) (ps : List (List ℕ)) (w : List ℕ) (g n : ℕ) (x : Live) (m bs : List ℕ) → At ps w g n x → Wrote p R least x w bs m → Go least ps w g n x m (write bs)
  unfolding one_act
  writes least ps w g n x m bs a d =
      record {
        m₁ = m;
        ev₁ = next;
        ps₁ = ps;
        w₁ = w ++ bs;
        a₁ = false;
        n₁ = n + d.k;
        x₁ = d.y;
        is = λ go. ap (λ c. pick c (go m next ps (w ++ bs) g false) (ran w g false 9999999)) d.row;
        pos = record { rel = d.rel; tells = refl; here = at_goes (w ++ bs) d.k d.y a d.goes d.begins };
        far = omega arith;
        forth = λ u. write_forth least ps w bs n x d.k d.y d.goes d.begins d.forth u;
        flush = write_flush least d.k w bs d.y d.forth;
        at_end = λ u v z i. write_end least d.k w bs d.y d.forth u (stays_over d.k v z d.y (subst (λ c. Goes p d.k c d.y) i d.goes)).0;
      }

  -- It ends: a number that tells how the run ended is taken for that.
  done_ends : (j : ℕ) (w : List ℕ) (g : ℕ) {v : Went} → Proper v → is_over v ≡ true → DoneWith j v → w ≡ (state_of v).out →
      (pick (ltb j 256) j 9999999 < 9999999) × EndedAs v (ran w g false (pick (ltb j 256) j 9999999))
  unfolding EndedAs is_over
  done_ends j w g all_done t h o = (rw h (omega arith), (rw h, o))
  done_ends j w g (exited {k} f) t h o = let l : j < 256 = omega (arith, h, f) in (rw (lt-ltb j 256 l) (omega arith), (rw (lt-ltb j 256 l) h, o))
  done_ends j w g (faulted f) t h o = absurd h
  done_ends j w g cut_off t h o = let y : ◌≡◌ {A = ℕ} 0 1 = cc in absurd (omega arith)

  refused_ends : (j : ℕ) (w : List ℕ) (g : ℕ) {v : Went} → Proper v → is_over v ≡ true → RefusedWith j v → w ≡ (state_of v).out →
      (pick (leb 1 j && ltb j 100000) (1000 + j) 9999999 < 9999999) × EndedAs v (ran w g false (pick (leb 1 j && ltb j 100000) (1000 + j) 9999999))
  unfolding EndedAs is_over
  refused_ends j w g all_done t h o = absurd h
  refused_ends j w g (exited f) t h o = absurd h
  refused_ends j w g (faulted {k} f) t h o =
      let i = fault_range k f in
      let l : j < 100000 = omega (arith, h, i.1) in
      let l₁ : 1 ≤ j = omega (arith, h, i.0) in
      (rw (le-leb 1 j l₁, lt-ltb j 100000 l) (omega arith), (rw (le-leb 1 j l₁, lt-ltb j 100000 l) (ap (λ i. 1000 + i) h), o))
  refused_ends j w g cut_off t h o = let y : ◌≡◌ {A = ℕ} 0 1 = cc in absurd (omega arith)

  -- the run is over there, so this is how it is meant to end
  record MeantEnd (j : ℕ) (v : Went) : Type 0 where
    at_j : run p bs₀ j ≡ done_by v
    proper : Proper v
    is_done : is_over v ≡ true

  meant_end : {ps : List (List ℕ)} {w : List ℕ} {g n : ℕ} {x : Live} (k : ℕ) (v : Went) (z : Bool) → At ps w g n x → Goes p k x (over v z) → MeantEnd (n + k) v
  meant_end {n = n} k v z a h =
      let u : run p bs₀ (n + k) ≡ done_by v = at_run (at_goes [] k (over v z) a h (_, refl)) in
      let o = over_is p bs₀ (n + k) v u in
      record { at_j = u; proper = subst Proper o.0 (outcome_proper (suc (n + k)) p bs₀); is_done = o.1 }

  ends_done : (ps : List (List ℕ)) (w : List ℕ) (g n : ℕ) (x : Live) (m : List ℕ) (j : ℕ) → At ps w g n x → Over p x w (DoneWith j) → Stop ps w g m (done j)
  unfolding one_act
  ends_done ps w g n x m j a d =
      let u = meant_end d.k d.v d.z a d.goes in
      let y = done_ends j w g u.proper u.is_done d.fits d.all in
      record { r = ran w g false (pick (ltb j 256) j 9999999); is = λ go. refl; ending = record { quiet = refl; j = n + d.k; small = y.0; how = inl (d.v, u.at_j, y.1, d.all) } }

  ends_refused : (ps : List (List ℕ)) (w : List ℕ) (g n : ℕ) (x : Live) (m : List ℕ) (j : ℕ) → At ps w g n x → Over p x w (RefusedWith j) → Stop ps w g m (refused j)
  unfolding one_act
  ends_refused ps w g n x m j a d =
      let u = meant_end d.k d.v d.z a d.goes in
      let y = refused_ends j w g u.proper u.is_done d.fits d.all in
      record {
        r = ran w g false (pick (leb 1 j && ltb j 100000) (1000 + j) 9999999);
        is = λ go. refl;
        ending = record { quiet = refl; j = n + d.k; small = y.0; how = inl (d.v, u.at_j, y.1, d.all) };
      }

  ends_full : (ps : List (List ℕ)) (w : List ℕ) (g n : ℕ) (x : Live) (m : List ℕ) (j : ℕ) → At ps w g n x → j ≡ 8 → Full p x w → Stop ps w g m (refused j)
  unfolding one_act
  ends_full ps w g n x m j a i d =
      let y : run_state (run p bs₀ (n + d.k)) ≡ live_state d.y = at_state (at_goes w d.k d.y a d.goes (begin_all d.all)) in
      record {
        r = ran w g false 1008;
        is = λ go. ap (λ k. ran w g false (pick (leb 1 k && ltb k 100000) (1000 + k) 9999999)) i;
        ending = record { quiet = refl; j = n + d.k; small = omega arith; how = inr (refl, d.all ∙ ap (λ s. s.out) (sym y), rw y d.heavy) };
      }

  ends_long : (ps : List (List ℕ)) (w : List ℕ) (g n : ℕ) (x : Live) (m : List ℕ) (j : ℕ) → At ps w g n x → j ≡ 7 → Long p x w → Stop ps w g m (refused j)
  unfolding one_act times EndedAs
  ends_long ps w g n x m j a i d =
      let u : run p bs₀ (n + d.k) ≡ view false (all_of ps) d.y = at_run (at_goes w d.k d.y a d.goes (begin_all d.waiting.2)) in
      let v : run p bs₀ (n + d.k + 1) ≡ done_by (wrong 7 d.waiting.0) =
      times_add (run_step (code p) (entries p) false) (n + d.k) 1 _ ∙ ap (λ z. run_step (code p) (entries p) false z) u ∙ long_view p (all_of ps) d.y d.waiting.1 d.long in
      let o : w ≡ d.waiting.0.out = d.waiting.2 ∙ sym (wait_out p d.y d.waiting.1) in
      record {
        r = ran w g false 1007;
        is = λ go. ap (λ k. ran w g false (pick (leb 1 k && ltb k 100000) (1000 + k) 9999999)) i;
        ending = record { quiet = refl; j = n + d.k + 1; small = omega arith; how = inl (wrong 7 d.waiting.0, v, (refl, o), o) };
      }

  abbrev NextAct : ℕ → List (List ℕ) → List ℕ → ℕ → ℕ → Live → List ℕ → Act → Type 0
  NextAct least ps w g n x m act = Stop ps w g m act ⊎ Go least ps w g n x m act

  one : (least : ℕ) (ps : List (List ℕ)) (w : List ℕ) (g n : ℕ) (x : Live) (m : List ℕ) (act : Act) → At ps w g n x → Does p R least x w m act → NextAct least ps w g n x m act
  one least ps w g n x m more a d = inr (asks least ps w g n x m a d)
  one least ps w g n x m (write bs) a d = inr (writes least ps w g n x m bs a d)
  one least ps w g n x m (done j) a d = inl (ends_done ps w g n x m j a d)
  one least ps w g n x m (refused j) a (inl d) = inl (ends_refused ps w g n x m j a d)
  one least ps w g n x m (refused j) a (inr (inl d)) = inl (ends_full ps w g n x m j a d.0 d.1)
  one least ps w g n x m (refused j) a (inr (inr d)) = inl (ends_long ps w g n x m j a d.0 d.1)

  does_by : {m : List ℕ} (ev : Event) {ps : List (List ℕ)} {w : List ℕ} {g : ℕ} {a : Bool} {n : ℕ} {x : Live} → Pos m ev ps w g a n x → Comes p (told ev x) →
      Does p R 1 (told ev x) w (e.step m ev).memory (e.step m ev).act
  does_by (started t) h f = absurd h.tells
  does_by {m} (bytes q) {ps} {w} {x = x} h f = st.on_bytes m w q x h.rel h.tells.1 (and_parts (a_row q) (every a_row ps) h.here.rows).0 (at_comes h.here) f
  does_by {m} no_more {w = w} {x = x} h f = st.on_no_more m w x h.rel h.tells.1 (at_comes h.here) f
  does_by {m} next {w = w} {x = x} h f = st.on_next m w x h.rel f

  one_at : (m : List ℕ) (ev : Event) (ps : List (List ℕ)) (w : List ℕ) (g : ℕ) (a : Bool) (n : ℕ) (x : Live) → Pos m ev ps w g a n x →
      NextAct 1 ps w (g + pick a (came ev) 0) n (told ev x) (e.step m ev).memory (e.step m ev).act
  one_at m ev ps w g a n x h =
      let t = tell ev h in
      one 1 ps w (g + pick a (came ev) 0) n (told ev x) (e.step m ev).memory (e.step m ev).act t (does_by ev h (at_comes t))

  -- What is never wrong.
  record Safe (r : Ran) : Type 0 where
    meant : (f : ℕ) × Beginning r.written (state_of (outcome f p bs₀)).out
    asking : r.asks ≡ true → (f : ℕ) × (s : State) × (so_far f p (all_of (take r.given ps₀)) ≡ went s) × (r.written ≡ s.out)
    ended : (r.end ≡ 10000000) ⊎ (NoRoom p bs₀ r ⊎ ((f : ℕ) × EndedAs (outcome f p bs₀) r))

  so_far_at : {ps : List (List ℕ)} {w : List ℕ} {g n : ℕ} {x : Live} → At ps w g n x → Waiting p x w → (f : ℕ) × (s : State) × (so_far f p (all_of (take g ps₀)) ≡ went s) × (w ≡ s.out)
  so_far_at {ps} {w} {g} {n} {x} a h =
      let j : take g ps₀ ≡ a.qs = ap (λ z. take z ps₀) (sym a.count) ∙ ap (λ z. take (length a.qs) z) a.pieces ∙ take-append_seam a.qs ps in
      (suc (suc n), h.0, ap (λ z. so_far (suc (suc n)) p (all_of z)) j ∙ reached_waits p a.reached h.1, h.2 ∙ sym (wait_out p x h.1))

  asking_at : {m : List ℕ} (ev : Event) {ps : List (List ℕ)} {w : List ℕ} {g : ℕ} {a : Bool} {n : ℕ} {x : Live} → Pos m ev ps w g a n x → a ≡ true →
      (f : ℕ) × (s : State) × (so_far f p (all_of (take g ps₀)) ≡ went s) × (w ≡ s.out)
  asking_at (started t) h i = absurd h.tells
  asking_at (bytes q) h i = so_far_at h.here h.tells.1
  asking_at no_more h i = so_far_at h.here h.tells.1
  asking_at next h i = let y : true ≡ false = sym i ∙ h.tells in let z : ◌≡◌ {A = ℕ} 0 1 = cc in absurd (omega arith)

  meant_at : {ps : List (List ℕ)} {w : List ℕ} {g n : ℕ} {x : Live} → At ps w g n x → (f : ℕ) × Beginning w (state_of (outcome f p bs₀)).out
  meant_at {w = w} {n = n} a = (n, begin_trans w _ _ (rw (at_state a) a.begins) (back p bs₀ n).outs)

  safe_end : (r : Ran) → Ending r → Safe r
  safe_end r h = safe_by h.how
    where
      wakes : r.asks ≡ true → ⊥
      wakes i = let y : true ≡ false = sym i ∙ h.quiet in let z : ◌≡◌ {A = ℕ} 0 1 = cc in omega arith

      safe_by : How h.j r → Safe r
      safe_by (inl d) =
          let o : outcome (suc h.j) p bs₀ ≡ d.0 = (over_is p bs₀ h.j d.0 d.1).0 in
          record {
            meant = (suc h.j, begin_all (d.3 ∙ ap (λ z. (state_of z).out) (sym o)));
            asking = λ i. absurd (wakes i);
            ended = inr (inr (suc h.j, subst (λ z. EndedAs z r) (sym o) d.2));
          }
      safe_by (inr d) =
          record { meant = (h.j, rw d.1 (back p bs₀ h.j).outs); asking = λ i. absurd (wakes i); ended = inr (inl (room p bs₀ h.j r d.2 d.0 d.1)) }

  -- any acts: after the first the others
  abbrev rest_runs : ℕ → Going
  rest_runs q m ev ps w g a = runs q e m ev ps w g a

  safe_one : (q least : ℕ) (ps : List (List ℕ)) (w : List ℕ) (g n : ℕ) (x : Live) (m : List ℕ) (act : Act) →
      ((m₁ : List ℕ) (ev₁ : Event) (ps₁ : List (List ℕ)) (w₁ : List ℕ) (g₁ : ℕ) (a₁ : Bool) (n₁ : ℕ) (x₁ : Live) → Pos m₁ ev₁ ps₁ w₁ g₁ a₁ n₁ x₁ → Safe (runs q e m₁ ev₁ ps₁ w₁ g₁ a₁)) →
      NextAct least ps w g n x m act → Safe (one_act (rest_runs q) ps w g m act)
  safe_one q least ps w g n x m act ih (inl d) = subst Safe (sym (d.is (rest_runs q))) (safe_end d.r d.ending)
  safe_one q least ps w g n x m act ih (inr d) = subst Safe (sym (d.is (rest_runs q))) (ih d.m₁ d.ev₁ d.ps₁ d.w₁ g d.a₁ d.n₁ d.x₁ d.pos)

  safe : (q : ℕ) (m : List ℕ) (ev : Event) (ps : List (List ℕ)) (w : List ℕ) (g : ℕ) (a : Bool) (n : ℕ) (x : Live) → Pos m ev ps w g a n x → Safe (runs q e m ev ps w g a)
  unfolding runs
  safe zero m ev ps w g a n x h = record { meant = meant_at h.here; asking = λ i. asking_at ev h i; ended = inl refl }
  safe (suc q) m ev ps w g a n x h =
      safe_one q 1 ps w (g + pick a (came ev) 0) n (told ev x) (e.step m ev).memory (e.step m ev).act
      (λ m₁ ev₁ ps₁ w₁ g₁ a₁ n₁ x₁ h₁. safe q m₁ ev₁ ps₁ w₁ g₁ a₁ n₁ x₁ h₁) (one_at m ev ps w g a n x h)

  -- What comes some time: H holds of the run after some acts.
  module _ (N : ℕ) (H : Ran → Type 0) where
    abbrev Found : List ℕ → Event → List (List ℕ) → List ℕ → ℕ → Bool → Type 0
    Found m ev ps w g a = (q : ℕ) × H (runs q e m ev ps w g a)

    -- from every place of which P holds
    abbrev From : (ℕ → List (List ℕ) → List ℕ → Live → Type 0) → Type 0
    From P = (m : List ℕ) (ev : Event) (ps : List (List ℕ)) (w : List ℕ) (g : ℕ) (a : Bool) (n : ℕ) (x : Live) → P n ps w (told ev x) → Pos m ev ps w g a n x → Found m ev ps w g a

    module _ (stops : (r : Ran) → Ending r → H r) where
      -- one act, and then the others
      found_next : (m : List ℕ) (ev : Event) (ps : List (List ℕ)) (w : List ℕ) (g : ℕ) (a : Bool) (n : ℕ) (x : Live) →
          NextAct 1 ps w (g + pick a (came ev) 0) n x (e.step m ev).memory (e.step m ev).act →
          ((d : Go 1 ps w (g + pick a (came ev) 0) n x (e.step m ev).memory (e.step m ev).act) → Found d.m₁ d.ev₁ d.ps₁ d.w₁ (g + pick a (came ev) 0) d.a₁) → Found m ev ps w g a
      unfolding runs
      found_next m ev ps w g a n x (inl d) go = (1, subst H (sym (d.is (rest_runs 0))) (stops d.r d.ending))
      found_next m ev ps w g a n x (inr d) go = let h = go d in (suc h.0, subst H (sym (d.is (rest_runs h.0))) h.1)

      -- as long as the run has not come to its step N
      onward_by : (d s : ℕ) → From (λ n ps w x. N ≤ n + d) → From (λ n ps w x. (N ≤ n + suc d) × (size ps w x < s)) → From (λ n ps w x. (N ≤ n + suc d) × (size ps w x ≤ s))
      onward_by d s ih prev m ev ps w g a n x h i = found_next m ev ps w g a n (told ev x) (one_at m ev ps w g a n x i) (λ y. by_forth y (y.forth (omega arith)))
        where
          by_forth : (y : Go 1 ps w (g + pick a (came ev) 0) n (told ev x) (e.step m ev).memory (e.step m ev).act) →
              (n < y.n₁) ⊎ (size y.ps₁ y.w₁ (told y.ev₁ y.x₁) < size ps w (told ev x)) → Found y.m₁ y.ev₁ y.ps₁ y.w₁ (g + pick a (came ev) 0) y.a₁
          by_forth y (inl z) = ih y.m₁ y.ev₁ y.ps₁ y.w₁ (g + pick a (came ev) 0) y.a₁ y.n₁ y.x₁ (omega (arith, h.0)) y.pos
          by_forth y (inr z) = prev y.m₁ y.ev₁ y.ps₁ y.w₁ (g + pick a (came ev) 0) y.a₁ y.n₁ y.x₁ (omega (arith, h.0, y.far), omega (arith, h.1)) y.pos

      onward : (d : ℕ) → From (λ n ps w x. N ≤ n + d) → (s : ℕ) → From (λ n ps w x. (N ≤ n + suc d) × (size ps w x ≤ s))
      onward d ih zero m ev ps w g a n x h i = onward_by d zero ih (λ m₁ ev₁ ps₁ w₁ g₁ a₁ n₁ x₁ h₁ i₁. absurd (omega (arith, h₁.1))) m ev ps w g a n x h i
      onward d ih (suc s) m ev ps w g a n x h i =
          onward_by d (suc s) ih (λ m₁ ev₁ ps₁ w₁ g₁ a₁ n₁ x₁ h₁ i₁. onward d ih s m₁ ev₁ ps₁ w₁ g₁ a₁ n₁ x₁ (h₁.0, omega (arith, h₁.1)) i₁) m ev ps w g a n x h i

      -- from everywhere, if from every place at or behind step N
      reaches : From (λ n ps w x. N ≤ n) → (d : ℕ) → From (λ n ps w x. N ≤ n + d)
      reaches fin zero m ev ps w g a n x h i = fin m ev ps w g a n x (omega (arith, h)) i
      reaches fin (suc d) m ev ps w g a n x h i = onward d (λ m₁ ev₁ ps₁ w₁ g₁ a₁ n₁ x₁ h₁ i₁. reaches fin d m₁ ev₁ ps₁ w₁ g₁ a₁ n₁ x₁ h₁ i₁) (size ps w (told ev x)) m ev ps w g a n x (h, le_refl _) i

  -- what the run has written at its step N is written some time
  abbrev Written : ℕ → Ran → Type 0
  Written N r = Beginning (run_state (run p bs₀ N)).out r.written ⊎ (r.end ≡ 1008)

  written_stops : (N : ℕ) (r : Ran) → Ending r → Written N r
  written_stops N r h = written_how h.how
    where
      written_how : How h.j r → Written N r
      written_how (inl d) =
          let y : run p bs₀ (h.j + N) ≡ done_by d.0 = done_later (code p) (entries p) false h.j N _ d.0 d.1 in
          inl (rw (d.3, ← (ap run_state y)) (later (code p) (entries p) false N (h.j + N) _ (omega arith)).outs)
      written_how (inr d) = inr d.0

  out_later : (N : ℕ) {ps : List (List ℕ)} {w : List ℕ} {g n : ℕ} {x : Live} → N ≤ n → At ps w g n x → Beginning (run_state (run p bs₀ N)).out (live_out x)
  out_later N {n = n} h a = subst (λ s. Beginning (run_state (run p bs₀ N)).out s.out) (at_state a) (later (code p) (entries p) false N n _ h).outs

  written_by : (N r : ℕ) → From N (Written N) (λ n ps w x. (N ≤ n) × (length (run_state (run p bs₀ N)).out ≤ length w + r))
  unfolding runs
  written_by N zero m ev ps w g a n x h i = (0, inl (shorter _ w (live_out x) (out_later N h.0 i.here) i.here.begins (omega (arith, h.1))))
  written_by N (suc r) m ev ps w g a n x h i =
      found_next N (Written N) (written_stops N) m ev ps w g a n (told ev x) (one_at m ev ps w g a n x i) (λ y. by_flush y y.flush (λ l. written_by N r y.m₁ y.ev₁ y.ps₁ y.w₁ (g + pick a (came ev) 0) y.a₁ y.n₁ y.x₁ l y.pos))
    where
      by_flush : (y : Go 1 ps w (g + pick a (came ev) 0) n (told ev x) (e.step m ev).memory (e.step m ev).act) → (y.w₁ ≡ live_out y.x₁) ⊎ (length w < length y.w₁) →
          ((N ≤ y.n₁) × (length (run_state (run p bs₀ N)).out ≤ length y.w₁ + r) → Found N (Written N) y.m₁ y.ev₁ y.ps₁ y.w₁ (g + pick a (came ev) 0) y.a₁) →
          Found N (Written N) y.m₁ y.ev₁ y.ps₁ y.w₁ (g + pick a (came ev) 0) y.a₁
      by_flush y (inl z) ih = (0, inl (rw z (out_later N (omega (arith, h.0, y.far)) y.pos.here)))
      by_flush y (inr z) ih = ih (omega (arith, h.0, y.far), omega (arith, h.1))

  -- a run that is over at its step N ends some time
  abbrev SmallEnd : Ran → Type 0
  SmallEnd r = r.end < 9999999

  over_view : (fu : List ℕ) (x : Live) (v : Went) → view false fu x ≡ done_by v → (z : Bool) × (x ≡ over v z)
  over_view fu (live g c b z) v h = let y : ◌≡◌ {A = ℕ} 0 1 = cc in absurd (omega arith)
  over_view fu (over u z) v h = (z, cc)

  over_at : (N : ℕ) (v : Went) → run p bs₀ N ≡ done_by v → {ps : List (List ℕ)} {w : List ℕ} {g n : ℕ} {x : Live} → N ≤ n → At ps w g n x → (z : Bool) × (x ≡ over v z)
  over_at N v d {ps} {n = n} {x} h a =
      let k : n ≡ N + (n - N) = omega arith in
      over_view (all_of ps) x v (sym (at_run a) ∙ ap (λ z. run p bs₀ z) k ∙ done_later (code p) (entries p) false N (n - N) _ v d)

  end_by : (N : ℕ) (v : Went) → run p bs₀ N ≡ done_by v → (r : ℕ) → From N SmallEnd (λ n ps w x. (N ≤ n) × (length (state_of v).out < length w + r))
  end_by N v d zero m ev ps w g a n x h i =
      let o = over_at N v d h.0 i.here in
      absurd (omega (arith, h.1, begin_length w (live_out x) i.here.begins, ap (λ z. length (live_out z)) o.1))
  end_by N v d (suc r) m ev ps w g a n x h i =
      let o = over_at N v d h.0 (tell ev i) in
      found_next N SmallEnd (λ r₁ z. z.small) m ev ps w g a n (told ev x) (one_at m ev ps w g a n x i) (λ y.
      let l : length w < length y.w₁ = y.at_end (omega arith) v o.0 o.1 in
      end_by N v d r y.m₁ y.ev₁ y.ps₁ y.w₁ (g + pick a (came ev) 0) y.a₁ y.n₁ y.x₁ (omega (arith, h.0, y.far), omega (arith, h.1)) y.pos)

  begins_at : At ps₀ [] 0 0 (live_start p)
  begins_at = record { qs = []; pieces = refl; count = refl; reached = at_start; closed = λ h. let y : ◌≡◌ {A = ℕ} 0 1 = cc in absurd (omega arith); begins = ([], refl); rows = rows₀ }

  -- From the start.
  module _ (t : List ℕ) (boot : Does p R 0 (live_start p) [] (e.step e.start (started t)).memory (e.step e.start (started t)).act) where
    first_one : NextAct 0 ps₀ [] 0 0 (live_start p) (e.step e.start (started t)).memory (e.step e.start (started t)).act
    first_one = one 0 ps₀ [] 0 0 (live_start p) (e.step e.start (started t)).memory (e.step e.start (started t)).act begins_at boot

    safe_start : (q : ℕ) → Safe (run_of q e t ps₀)
    unfolding runs
    safe_start zero = record { meant = (0, (_, refl)); asking = λ i. let y : ◌≡◌ {A = ℕ} 0 1 = cc in absurd (omega arith); ended = inl refl }
    safe_start (suc q) =
        safe_one q 0 ps₀ [] 0 0 (live_start p) (e.step e.start (started t)).memory (e.step e.start (started t)).act
        (λ m₁ ev₁ ps₁ w₁ g₁ a₁ n₁ x₁ h₁. safe q m₁ ev₁ ps₁ w₁ g₁ a₁ n₁ x₁ h₁) first_one

    found_start : (N : ℕ) (H : Ran → Type 0) → ((r : Ran) → Ending r → H r) → From N H (λ n ps w x. N ≤ n) → (q : ℕ) × H (run_of q e t ps₀)
    unfolding runs
    found_start N H s f = found_one first_one
      where
        found_one : NextAct 0 ps₀ [] 0 0 (live_start p) (e.step e.start (started t)).memory (e.step e.start (started t)).act → (q : ℕ) × H (run_of q e t ps₀)
        found_one (inl d) = (1, subst H (sym (d.is (rest_runs 0))) (s d.r d.ending))
        found_one (inr d) =
            let y = reaches N H s f N d.m₁ d.ev₁ d.ps₁ d.w₁ 0 d.a₁ d.n₁ d.x₁ (omega arith) d.pos in
            (suc y.0, subst H (sym (d.is (rest_runs y.0))) y.1)

    finished : (n : ℕ) {w : Went} {x : Run} → Ends (code p) (entries p) false n x w → is_over w ≡ true → (k : ℕ) × (times (run_step (code p) (entries p) false) k x ≡ done_by w)
    unfolding is_over
    finished n (finishes t l) h = (l.k, l.is)
    finished n (lasts g ls q st s z l) h = let i : is_over (unfinished s) ≡ true = ap is_over (sym z) ∙ h in let y : ◌≡◌ {A = ℕ} 0 1 = cc in absurd (omega arith)

    pub right : Right e t p ps₀
    unfolding Right
    right = (
      (λ n. (safe_start n).meant),
      (λ n h. (safe_start n).asking h),
      (λ n. (safe_start n).ended),
      (λ f h.
          let d = finished f (ends_outcome p f bs₀) h in
          let v = outcome f p bs₀ in
          found_start d.0 SmallEnd (λ r z. z.small) (λ m ev ps w g a n x l i. end_by d.0 v d.1 (suc (length (state_of v).out)) m ev ps w g a n x (l, omega arith) i)),
      (λ f.
          let d = meets p bs₀ f in
          let y = found_start d.0 (Written d.0) (written_stops d.0) (λ m ev ps w g a n x l i. written_by d.0 (length (run_state (run p bs₀ d.0)).out) m ev ps w g a n x (l, omega arith) i) in
          (y.0, subst (λ s. Beginning s.out (run_of y.0 e t ps₀).written ⊎ ((run_of y.0 e t ps₀).end ≡ 1008)) d.1 y.1)),
    )
