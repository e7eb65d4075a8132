-- A machine by turns keeps what an engine owes, step by step, and so all that is promised.
use Rattle.std.proofs.Common.{◌≡◌, ℕ, zero, suc, ◌+◌, ◌≤◌, Bool, true, false, ◌⊎◌, List, [], ◌∷◌, ◌++◌, sym, refl, ap, ◌∙◌, subst, inl, inr, append_assoc, append-nil, suc-add, zero-add, arith}
use Rattle.language.specs.Text.{pick, none_of}
use Rattle.language.specs.Program.{Program}
use Rattle.language.specs.Meaning.{State, Went}
use Rattle.language.specs.Run.{Engine, Event, started, bytes, no_more, next, Act, more, write, done, refused, one_act, runs}
use Rattle.language.specs.Promise.{Whole}
use Rattle.semantics.specs.Lines.{Live, follow, waits, live_out, live_start, told, Goes}
use Rattle.semantics.specs.Engine.{Turn, on, asks, stops, Parts, Halt, tired, asked, halted, turned, loop, writes_or, finish, goes_by, DoneWith, RefusedWith, Comes, Waiting, Over, Stopping, Turning, Machine}
use Rattle.semantics.proofs.Pieces.{reached_goes}
use Rattle.semantics.proofs.Composition.{told_out, Wrote, Does, Stepping, right}

goes_then : (p : Program) (j k : ℕ) (x y z : Live) → Goes p j x y → Goes p k y z → Goes p (j + k) x z
goes_then p zero k x y z g h = rw (zero-add, g) h
goes_then p (suc j) k x y z g h = rw suc-add (g.0, g.1, goes_then p j k g.0 y z g.2 h)

comes_goes : {p : Program} {x : Live} (k : ℕ) (y : Live) → Comes p x → Goes p k x y → Comes p y
comes_goes {p} {x} k y c g = record { so_far = c.so_far; made = c.made + k; reached = reached_goes p k c.made x c.reached g; few = c.few }

append_same : (w u : List ℕ) → w ++ u ≡ w → u ≡ []
append_same [] u h = h
append_same (c ∷ w) u h = append_same w u (cc)

none_empty : (xs : List ℕ) → none_of xs ≡ true → xs ≡ []
none_empty [] h = refl
none_empty (c ∷ xs) h = cc

none_full : (xs : List ℕ) → none_of xs ≡ false → xs ≡ [] → ⊥
none_full [] h i = let y : ◌≡◌ {A = ℕ} 0 1 = cc in omega arith
none_full (c ∷ xs) h i = let y : ◌≡◌ {A = ℕ} 0 1 = cc in omega arith

module _ (p : Program) {S : Type 0} (a : Parts S) (Rel : List ℕ → Live → List ℕ → Type 0) (Mid : S → Live → List ℕ → Type 0) where
  -- memory stands for x, and this much of what x wrote is still to go out
  abbrev Pending : List ℕ → Live → List ℕ → Type 0
  Pending m x w = (u : List ℕ) × Rel m x u × (live_out x ≡ w ++ u)

  module _ (t : Turning p a Rel Mid) where
    -- some turns led from x to y; `least` steps were made, or there is something to write
    record GotTo (x : Live) (w : List ℕ) (s : S) (least : ℕ) : Type 0 where
      k : ℕ
      y : Live
      u : List ℕ
      goes : Goes p k x y
      mid : Mid s y u
      outs : live_out y ≡ w ++ u
      comes : Comes p y
      forth : (least ≤ k) ⊎ (a.row s ≡ [] → ⊥)

    abbrev Looped : Live → List ℕ → ℕ → Halt S → Type 0
    Looped x w least (tired s) = GotTo x w s least
    Looped x w least (asked s) = (g : GotTo x w s 0) × ((r : State) × (follow p g.y ≡ waits r))
    Looped x w least (halted s c) = (g : GotTo x w s 0) × (g.u ≡ [] → Stopping p g.y (live_out g.y) c)

    abbrev got_here : (s : S) (u w : List ℕ) (x : Live) (least : ℕ) → Mid s x u → live_out x ≡ w ++ u → Comes p x → (least ≤ 0) ⊎ (a.row s ≡ [] → ⊥) → GotTo x w s least
    got_here s u w x least r o l f = record { k = 0; y = x; u = u; goes = refl; mid = r; outs = o; comes = l; forth = f }

    abbrev got_after : (j : ℕ) (x y : Live) (w : List ℕ) (s : S) → Goes p (suc j) x y → GotTo y w s 0 → (least : ℕ) → least ≤ 1 → GotTo x w s least
    got_after j x y w s h g least l = record { k = suc j + g.k; y = g.y; u = g.u; goes = goes_then p (suc j) g.k x y g.y h g.goes; mid = g.mid; outs = g.outs; comes = g.comes; forth = inl (omega arith) }

    looped_after : (j : ℕ) (x y : Live) (w : List ℕ) (h : Halt S) → Goes p (suc j) x y → Looped y w 0 h → Looped x w 1 h
    looped_after j x y w (tired s) i g = got_after j x y w s i g 1 (omega arith)
    looped_after j x y w (asked s) i g = (got_after j x y w s i g.0 0 (omega arith), g.1)
    looped_after j x y w (halted s c) i g = (got_after j x y w s i g.0 0 (omega arith), g.1)

    looped_less : (x : Live) (w : List ℕ) (h : Halt S) → Looped x w 1 h → Looped x w 0 h
    looped_less x w (tired s) g = record { k = g.k; y = g.y; u = g.u; goes = g.goes; mid = g.mid; outs = g.outs; comes = g.comes; forth = inl (omega arith) }
    looped_less x w (asked s) g = g
    looped_less x w (halted s c) g = g

    loops_turn : (go : S → Halt S) (s : S) (u w : List ℕ) (x : Live) → Mid s x u → live_out x ≡ w ++ u → Comes p x →
        ((s₁ : S) (u₁ : List ℕ) (y : Live) → Mid s₁ y u₁ → live_out y ≡ w ++ u₁ → Comes p y → Looped y w 0 (go s₁)) → (c : Turn S) → a.turn s ≡ c → Looped x w 1 (turned a go c)
    loops_turn go s u w x r o l ih (on s₁) h =
        let d = t.on_right s s₁ u x r l h in
        looped_after d.0 x d.1 w (go s₁) d.3 (ih s₁ (u ++ d.2) d.1 d.5 (d.4 ∙ ap (λ z. z ++ d.2) o ∙ append_assoc w u d.2) (comes_goes (suc d.0) d.1 l d.3))
    loops_turn go s u w x r o l ih (asks s₁) h =
        let d = t.asks_right s s₁ u x r l h in
        (got_here s₁ u w x 0 d.0 o l (inl (omega arith)), d.1)
    loops_turn go s u w x r o l ih (stops s₁ c) h =
        let d = t.stops_right s s₁ u x c r l h in
        (got_here s₁ u w x 0 d.0 o l (inl (omega arith)), d.1)

    loops_pick : (s : S) (u w : List ℕ) (x : Live) (h : Halt S) → Mid s x u → live_out x ≡ w ++ u → Comes p x → Looped x w 1 h → (c : Bool) → a.ripe s ≡ c → Looped x w 1 (pick c (tired s) h)
    loops_pick s u w x h r o l g true i = got_here s u w x 1 r o l (inr (t.ripe_right s u x r i))
    loops_pick s u w x h r o l g false i = g

    abbrev Loops : ℕ → Type 0
    Loops n = (s : S) (u w : List ℕ) (x : Live) → Mid s x u → live_out x ≡ w ++ u → Comes p x → Looped x w 0 (loop a n s)

    loops_forth : (n : ℕ) → Loops n → (s : S) (u w : List ℕ) (x : Live) → Mid s x u → live_out x ≡ w ++ u → Comes p x → Looped x w 1 (loop a (suc n) s)
    unfolding loop
    loops_forth n ih s u w x r o l =
        loops_pick s u w x _ r o l (loops_turn (λ s₁. loop a n s₁) s u w x r o l (λ s₁ u₁ y r₁ o₁ l₁. ih s₁ u₁ w y r₁ o₁ l₁) (a.turn s) refl) (a.ripe s) refl

    loops : (n : ℕ) → Loops n
    unfolding loop
    loops zero s u w x r o l = got_here s u w x 0 r o l (inl (omega arith))
    loops (suc n) s u w x r o l = looped_less x w (loop a (suc n) s) (loops_forth n (loops n) s u w x r o l)

    -- memory, once the row is out
    saved : (s : S) (u w : List ℕ) (x : Live) → Mid s x u → live_out x ≡ w ++ u → Pending (a.save s) x (w ++ a.row s)
    saved s u w x r o = let d = t.row_right s u x r in (d.0, d.2, o ∙ ap (λ z. w ++ z) d.1 ∙ sym (append_assoc w (a.row s) d.0))

    -- a row goes out
    writes_right : (x : Live) (w : List ℕ) (s : S) (least : ℕ) → least ≤ 1 → GotTo x w s least → (least ≡ 0 → a.row s ≡ [] → ⊥) → Wrote p Pending 1 x w (a.row s) (a.save s)
    writes_right x w s least l g n =
        let d = t.row_right s g.u g.y g.mid in
        let v = saved s g.u w g.y g.mid g.outs in
        record {
          k = g.k;
          y = g.y;
          goes = g.goes;
          rel = v;
          row = d.3;
          begins = (v.0, v.2);
          forth = λ h. (writes_forth least l g.forth n h, sym (g.outs ∙ ap (λ z. w ++ z) (d.4 h) ∙ append-nil w));
        }
      where
        writes_forth : (i : ℕ) → i ≤ 1 → (i ≤ g.k) ⊎ (a.row s ≡ [] → ⊥) → (i ≡ 0 → a.row s ≡ [] → ⊥) → a.row s ≡ [] → 1 ≤ g.k
        writes_forth zero l₁ c n₁ h = absurd (n₁ refl h)
        writes_forth (suc i) l₁ (inl c) n₁ h = omega arith
        writes_forth (suc i) l₁ (inr c) n₁ h = absurd (c h)

    over_from : (j : ℕ) (x y : Live) (w : List ℕ) (Q : Went → Type 0) → Goes p j x y → w ≡ live_out y → Over p y (live_out y) Q → Over p x w Q
    over_from j x y w Q g o d = record { k = j + d.k; v = d.v; z = d.z; goes = goes_then p j d.k x y _ g d.goes; all = o ∙ d.all; fits = d.fits }

    stopping_from : (j : ℕ) (x y : Live) (w : List ℕ) → Goes p j x y → w ≡ live_out y → (m : List ℕ) (c : Act) → Stopping p y (live_out y) c → Does p Pending 1 x w m c
    stopping_from j x y w g o m more d = absurd d
    stopping_from j x y w g o m (write bs) d = absurd d
    stopping_from j x y w g o m (done i) d = over_from j x y w (DoneWith i) g o d
    stopping_from j x y w g o m (refused i) (inl d) = inl (over_from j x y w (RefusedWith i) g o d)
    stopping_from j x y w g o m (refused i) (inr (inl d)) =
        inr (inl (d.0, record { k = j + d.1.k; y = d.1.y; goes = goes_then p j d.1.k x y _ g d.1.goes; all = o ∙ d.1.all; heavy = d.1.heavy }))
    stopping_from j x y w g o m (refused i) (inr (inr d)) =
        inr (inr (d.0, record { k = j + d.1.k; y = d.1.y; goes = goes_then p j d.1.k x y _ g d.1.goes; waiting = (d.1.waiting.0, d.1.waiting.1, o ∙ d.1.waiting.2); long = d.1.long }))

    -- where there is no row, nothing is pending
    empty_row : (x : Live) (w : List ℕ) (s : S) (g : GotTo x w s 0) → none_of (a.row s) ≡ true → (g.u ≡ []) × (w ≡ live_out g.y)
    empty_row x w s g i =
        let e : g.u ≡ [] = (t.row_right s g.u g.y g.mid).4 (none_empty (a.row s) i) in
        (e, sym (g.outs ∙ ap (λ z. w ++ z) e ∙ append-nil w))

    -- either that, or a row goes out
    row_or : (x : Live) (w : List ℕ) (s : S) (c : Act) → GotTo x w s 0 → (none_of (a.row s) ≡ true → Does p Pending 1 x w (a.save s) c) → (b : Bool) → none_of (a.row s) ≡ b →
        Does p Pending 1 x w (writes_or a b c s).memory (writes_or a b c s).act
    row_or x w s c g k true i = k i
    row_or x w s c g k false i = writes_right x w s 0 (omega arith) g (λ z. none_full (a.row s) i)

    finish_right : (x : Live) (w : List ℕ) (h : Halt S) → Looped x w 1 h → Does p Pending 1 x w (finish a h).memory (finish a h).act
    finish_right x w (tired s) g = writes_right x w s 1 (omega arith) g (λ z. absurd (omega arith))
    finish_right x w (asked s) g =
        row_or x w s more g.0 (λ i.
        let r : Pending (a.save s) g.0.y w =
        subst (λ z. Pending (a.save s) g.0.y z) (ap (λ z. w ++ z) (none_empty (a.row s) i) ∙ append-nil w) (saved s g.0.u w g.0.y g.0.mid g.0.outs) in
        record { k = g.0.k; y = g.0.y; goes = g.0.goes; rel = r; waiting = (g.1.0, g.1.1, (empty_row x w s g.0 i).1) }) (none_of (a.row s)) refl
    finish_right x w (halted s c) g =
        row_or x w s c g.0 (λ i.
        let d = empty_row x w s g.0 i in
        stopping_from g.0.k x g.0.y w g.0.goes d.1 (a.save s) c (g.1 d.0)) (none_of (a.row s)) refl

    -- a step is right
    steps_right : (s : S) (u w : List ℕ) (x : Live) → Mid s x u → live_out x ≡ w ++ u → Comes p x → Does p Pending 1 x w (finish a (loop a (suc a.turns) s)).memory (finish a (loop a (suc a.turns) s)).act
    steps_right s u w x r o l = finish_right x w (loop a (suc a.turns) s) (loops_forth a.turns (loops a.turns) s u w x r o l)

    all_out : (m w : List ℕ) (x : Live) (h : Pending m x w) → w ≡ live_out x → h.0 ≡ []
    all_out m w x h o = append_same w h.0 (sym h.2 ∙ sym o)

    told_right : (ev : Event) (m w : List ℕ) (x : Live) → Waiting p x w → Comes p (told ev x) → Mid (a.take_in m ev) (told ev x) [] →
        Does p Pending 1 (told ev x) w (goes_by a m ev).memory (goes_by a m ev).act
    told_right ev m w x v l s = steps_right (a.take_in m ev) [] w (told ev x) s (told_out ev x ∙ sym v.2 ∙ sym (append-nil w)) l

    by_turns : (e : Engine) → ((m : List ℕ) (q : List ℕ) → e.step m (bytes q) ≡ goes_by a m (bytes q)) → ((m : List ℕ) → e.step m no_more ≡ goes_by a m no_more) →
        ((m : List ℕ) → e.step m next ≡ goes_by a m next) → Stepping p Pending e
    by_turns e eb en ex = record {
      on_next = λ m w x r l. rw (ex m) (steps_right (a.take_in m next) r.0 w x (t.next_right m r.0 x r.1) r.2 l);
      on_bytes = λ m w q x r v c l₀ l.
          rw (eb m q) (told_right (bytes q) m w x v l (t.bytes_right m q x v.0 (subst (λ z. Rel m x z) (all_out m w x r v.2) r.1) v.1 c l₀ l));
      on_no_more = λ m w x r v l₀ l.
          rw (en m) (told_right no_more m w x v l (t.no_more_right m x v.0 (subst (λ z. Rel m x z) (all_out m w x r v.2) r.1) v.1 l₀));
    }

-- THE WHOLE PROMISE
pub machine_whole : (known : Program → Bool) (e : Engine) (S : Type 0) (Rel : Program → List ℕ → Live → List ℕ → Type 0) (Mid : Program → S → Live → List ℕ → Type 0) → Machine known e S Rel Mid → Whole known e
unfolding Whole runs one_act
machine_whole known e S Rel Mid h = (
  h.steady,
  λ t ps i j l.
      let begun : (c : Act) → List ℕ × ℕ = λ c. (
        (one_act (λ m₁ ev₁ ps₁ w₁ g₁ a₁. runs 0 e m₁ ev₁ ps₁ w₁ g₁ a₁) ps [] 0 (e.step e.start (started t)).memory c).written,
        (one_act (λ m₁ ev₁ ps₁ w₁ g₁ a₁. runs 0 e m₁ ev₁ ps₁ w₁ g₁ a₁) ps [] 0 (e.step e.start (started t)).memory c).end,
      ) in (
        (λ z. (1, ap (λ c. (begun c).1) (h.no_program t i z), ap (λ c. (begun c).0) (h.no_program t i z))),
        (λ p z k. (1, ap (λ c. (begun c).1) (h.unknown t p i z k), ap (λ c. (begun c).0) (h.unknown t p i z k))),
        (λ p z k.
            let d = h.starts t p i z k in
            let m : List ℕ = (e.step e.start (started t)).memory in
            let R = Pending p h.parts (Rel p) (Mid p) in
            let w : Wrote p R 0 (live_start p) [] [] m = record { k = 0; y = live_start p; goes = refl; rel = ([], d.1, refl); row = refl; begins = ([], refl); forth = λ z. (omega arith, refl) } in
            right p e R (by_turns p h.parts (Rel p) (Mid p) (h.turning t p i z k) e h.at_bytes h.at_no_more h.at_next) ps j l t
            (subst (λ c. Does p R 0 (live_start p) [] m c) (sym d.0) w)),
      ),
)
