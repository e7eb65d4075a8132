-- Turns in a row: what stands in what is lent for a row, the loop, and what comes of a step.
use Rattle.std.proofs.Common.{◌≡◌, ℕ, zero, suc, ◌+◌, ◌-◌, ◌<◌, ◌≤◌, min, true, List, ◌++◌, length, take, drop, Some, None, Option, Ok, sym, refl, ap, ◌∙◌, subst, append-nil, add-zero, arith, length-append, length-drop, take-append-drop, length-take, length-take-le, take-take, drop-drop}
use lib.Seq.{paste, take-paste, drop-paste, length-paste, take-append-le, drop-append-le}
use Rattle.std.proofs.lemmas.Bool.{le-leb, lt-leb}
use Rattle.language.specs.Text.{pick}
use Rattle.language.specs.Run.{Event, bytes, no_more, next}
use Rattle.semantics.specs.Engine
use Rattle.semantics.specs.Engine.{Halt, tired, loop}
use Rattle.regions.specs.Parts.{Parts, parts, with_lines}
use Rattle.lines.specs.declared.input.Input.{Input}
use Rattle.lines.specs.Scanning.{waiting, taken_lines, after_taken, input_of}
use Rattle.rows.specs.Rows.{over_row}
use Rattle.interp.specs.declared.Turn as Code
use Rattle.interp.specs.declared.Turn.TheVariants as Kind
use Rattle.interp.specs.Outcomes.{Turn, On, Ask, Done, came}
use Rattle.interp.specs.declared.registers.Registers.{Registers}
use Rattle.interp.specs.Between.{with_input}
use Rattle.interp.specs.Registers.{registers_in}
use Rattle.interp.specs.Turns.{Did}
use Rattle.engine.specs.Prints.{resumed, pending_left}
use Rattle.engine.specs.Dispatch.{turned, turned_text, lent_after}
use Rattle.engine.specs.Scenes.{Scene, scene, regs_of, piece_taken, end_told, with_room, turn_of, scene_turn, halt_of, taken_in, machine_parts}
use Rattle.engine.specs.Steps.{scene_in, PutBehind}
use Rattle.engine.proofs.Laying.{take_most}
use Rattle.engine.proofs.Using.{turned_uses, resumed_uses}

-- WHAT IS LENT FOR A ROW

pub none_behind : (out : List ℕ) (used : ℕ) → used ≤ 4096 → PutBehind out used out used
none_behind out used h = record { on = omega arith; room = h; behind = refl; size = refl }

pub all_behind : (a b c : List ℕ) (i j k : ℕ) → PutBehind a i b j → PutBehind b j c k → PutBehind a i c k
all_behind a b c i j k f g =
    let e : drop k b ≡ drop k a = further g.on in
    record { on = omega (arith, f.on, g.on); room = g.room; behind = g.behind ∙ e; size = g.size ∙ f.size }
  where
    further : j ≤ k → drop k b ≡ drop k a
    further h =
        let n : j + (k - j) ≡ k = omega arith in
        ap (λ x. drop x b) (sym n) ∙ sym (drop-drop (k - j) j b) ∙ ap (drop (k - j)) f.behind ∙ drop-drop (k - j) j a ∙ ap (λ x. drop x a) n

-- what was printed stands behind what was used
pub record Stands (out : List ℕ) (used : ℕ) (t : Option (List ℕ)) (out₁ : List ℕ) (used₁ : ℕ) : Type 0 where
  pub behind : PutBehind out used out₁ used₁
  pub row : take used₁ out₁ ≡ take used out ++ with_room used t

none_stands : (out : List ℕ) (used used₁ : ℕ) → used ≤ 4096 → used₁ ≡ used → Stands out used None out used₁
none_stands out used used₁ h e =
    subst (λ n. Stands out used None out n) (sym e) (record { behind = none_behind out used h; row = sym (append-nil (take used out)) })

some_stands : (out b : List ℕ) (used : ℕ) → 4096 ≤ length out → used ≤ 4096 → Stands out used (Some b) (over_row out used b) (used + length (take (4096 - used) b))
unfolding over_row
some_stands out b used w h =
    let d : List ℕ = take 4096 out in
    let n : ℕ = length (take (4096 - used) b) in
    let l : length d ≡ 4096 = length-take-le 4096 out w in
    let m : n ≡ min (4096 - used) (length b) = length-take (4096 - used) b in
    let k : min (length b) (length d - used) ≡ n = omega arith in
    let t : List ℕ = paste d used b n in
    let e : over_row out used b ≡ t ++ drop 4096 out = ap (λ x. paste d used b x ++ drop 4096 out) k in
    let s : length t ≡ 4096 = length-paste d used b n (omega arith) (omega arith) ∙ l in
    let z = length-drop 4096 out in
    record {
      behind = record {
        on = omega arith;
        room = omega arith;
        behind = ap (drop (used + n)) e ∙ drop-append-le (used + n) t (drop 4096 out) (omega arith) ∙ ap (λ x. x ++ drop 4096 out) (drop-paste d used b n (omega arith) (omega arith))
            ∙ sym (drop-append-le (used + n) d (drop 4096 out) (omega arith)) ∙ ap (drop (used + n)) (take-append-drop 4096 out);
        size = ap length e ∙ length-append t (drop 4096 out) ∙ omega arith;
      };
      row = ap (take (used + n)) e ∙ take-append-le (used + n) t (drop 4096 out) (omega arith) ∙ take-paste d used b n (omega arith) (omega arith)
          ∙ ap (λ x. x ++ take n b) (take-take used 4096 out h) ∙ ap (λ x. take used out ++ x) (take_most b (4096 - used) n (omega arith));
    }

pub stands : (out out₁ : List ℕ) (used used₁ : ℕ) (t : Option (List ℕ)) → 4096 ≤ length out → used ≤ 4096 → out₁ ≡ lent_after out used t → used₁ ≡ used + length (with_room used t) →
    Stands out used t out₁ used₁
stands out out₁ used used₁ None w h e f = subst (λ x. Stands out used None x used₁) (sym e) (none_stands out used used₁ h (f ∙ add-zero used))
stands out out₁ used used₁ (Some b) w h e f =
    subst (λ x. Stands out used (Some b) x used₁) (sym e) (subst (λ n. Stands out used (Some b) (over_row out used b) n) (sym f) (some_stands out b used w h))

-- THE LOOP

-- a turn of the code, between two states of it
pub record Round (m : List ℕ) (r : Registers) (out m₁ : List ℕ) (r₁ : Registers) (out₁ : List ℕ) (t : Turn) : Type 0 where
  pub wide : 4096 ≤ length out
  pub room : r.used < 4096
  pub size : length m₁ ≡ length m
  pub did : ◌≡◌ {A = Did} (record { mem = parts m₁; regs = r₁; turn = t }) (turned (parts m) r)
  pub row : out₁ ≡ lent_after out r.used (turned_text (parts m) r)

pub round_as : (m : List ℕ) (r : Registers) (out m₁ : List ℕ) (r₁ : Registers) (out₁ : List ℕ) {t t₁ : Turn} → t ≡ t₁ → Round m r out m₁ r₁ out₁ t → Round m r out m₁ r₁ out₁ t₁
round_as m r out m₁ r₁ out₁ e h = subst (λ t. Round m r out m₁ r₁ out₁ t) e h

round_stands : (m : List ℕ) (r : Registers) (out m₁ : List ℕ) (r₁ : Registers) (out₁ : List ℕ) (t : Turn) → Round m r out m₁ r₁ out₁ t →
    Stands out r.used (turned_text (parts m) r) out₁ r₁.used
round_stands m r out m₁ r₁ out₁ t h =
    stands out out₁ r.used r₁.used (turned_text (parts m) r) h.wide (omega (arith, h.room)) h.row (ap (λ d. d.regs.used) h.did ∙ turned_uses (parts m) r)

pub round_behind : (m : List ℕ) (r : Registers) (out m₁ : List ℕ) (r₁ : Registers) (out₁ : List ℕ) (t : Turn) → Round m r out m₁ r₁ out₁ t → PutBehind out r.used out₁ r₁.used
round_behind m r out m₁ r₁ out₁ t h = (round_stands m r out m₁ r₁ out₁ t h).behind

same_scene : {n n₁ : ℕ} {p p₁ : Parts} {r r₁ : Registers} {w w₁ : List ℕ} → n ≡ n₁ → p ≡ p₁ → r ≡ r₁ → w ≡ w₁ →
    ◌≡◌ {A = Scene} (record { size = n; mem = p; regs = r; row = w }) (record { size = n₁; mem = p₁; regs = r₁; row = w₁ })
same_scene a b c d = cc

round_turn : (m : List ℕ) (r : Registers) (out m₁ : List ℕ) (r₁ : Registers) (out₁ : List ℕ) (t : Turn) → Round m r out m₁ r₁ out₁ t →
    turn_of t (scene_in m₁ r₁ out₁) ≡ scene_turn (scene_in m r out)
round_turn m r out m₁ r₁ out₁ t h =
    ap (λ x. turn_of x (scene_in m₁ r₁ out₁)) (ap (λ d. d.turn) h.did)
    ∙ ap (turn_of (turned (parts m) r).turn) (same_scene h.size (ap (λ d. d.mem) h.did) (ap (λ d. d.regs) h.did) (round_stands m r out m₁ r₁ out₁ t h).row)

-- what is left after a turn
pub round_loop : (n : ℕ) (m : List ℕ) (r : Registers) (out m₁ : List ℕ) (r₁ : Registers) (out₁ : List ℕ) (t : Turn) → 0 < n → Round m r out m₁ r₁ out₁ t →
    loop machine_parts n (scene_in m r out) ≡ Engine.turned machine_parts (λ s. loop machine_parts (n - 1) s) (turn_of t (scene_in m₁ r₁ out₁))
unfolding loop machine_parts
round_loop zero m r out m₁ r₁ out₁ t p h = absurd (omega arith)
round_loop (suc n) m r out m₁ r₁ out₁ t p h =
    let e : suc n - 1 ≡ n = omega arith in
    ap (λ b. pick b (tired (scene_in m r out)) (Engine.turned machine_parts (λ s. loop machine_parts n s) (scene_turn (scene_in m r out)))) (lt-leb 4096 r.used h.room)
    ∙ ap (Engine.turned machine_parts (λ s. loop machine_parts n s)) (sym (round_turn m r out m₁ r₁ out₁ t h))
    ∙ ap (λ k. Engine.turned machine_parts (λ s. loop machine_parts k s) (turn_of t (scene_in m₁ r₁ out₁))) (sym e)

-- a turn that no other follows
pub round_stops : (n : ℕ) (m : List ℕ) (r : Registers) (out m₁ : List ℕ) (r₁ : Registers) (out₁ : List ℕ) (t : Code.Turn) → 0 < n → (t ≡ Kind.On → ⊥) →
    Round m r out m₁ r₁ out₁ (came (Ok t)) → loop machine_parts n (scene_in m r out) ≡ halt_of (came (Ok t)) (scene_in m₁ r₁ out₁)
round_stops n m r out m₁ r₁ out₁ Kind.On p f h = absurd (f refl)
round_stops n m r out m₁ r₁ out₁ Kind.Ask p f h = round_loop n m r out m₁ r₁ out₁ Ask p h
round_stops n m r out m₁ r₁ out₁ (Kind.Done k) p f h = round_loop n m r out m₁ r₁ out₁ (Done k) p h

-- a full row ends the turns
pub full_loop : (n : ℕ) (s : Scene) → 4096 ≤ s.regs.used → loop machine_parts n s ≡ tired s
unfolding loop machine_parts
full_loop zero s h = refl
full_loop (suc n) s h = ap (λ b. pick b (tired s) (Engine.turned machine_parts (λ s₁. loop machine_parts n s₁) (scene_turn s))) (le-leb 4096 s.regs.used h)

pub spent_loop : (n : ℕ) (s : Scene) → n ≡ 0 → loop machine_parts n s ≡ tired s
unfolding loop
spent_loop n s e = ap (λ k. loop machine_parts k s) e

-- one turn more
pub turn_more : (h : Halt Scene) (b i : ℕ) (m : List ℕ) (r : Registers) (out m₁ : List ℕ) (r₁ : Registers) (out₁ : List ℕ) → i < b → h ≡ loop machine_parts (b - i) (scene_in m r out) →
    Round m r out m₁ r₁ out₁ On → h ≡ loop machine_parts (b - (i + 1)) (scene_in m₁ r₁ out₁)
turn_more h b i m r out m₁ r₁ out₁ l e g =
    let k : (b - i) - 1 ≡ b - (i + 1) = omega arith in
    e ∙ round_loop (b - i) m r out m₁ r₁ out₁ On (omega arith) g ∙ ap (λ n. loop machine_parts n (scene_in m₁ r₁ out₁)) k

-- WHAT IS TAKEN IN

-- where what was told leaves the code, before the first turn
pub record Begun (m out m₁ : List ℕ) (r₁ : Registers) (out₁ : List ℕ) (d : Did) (t : Option (List ℕ)) : Type 0 where
  pub wide : 4096 ≤ length out
  pub size : length m₁ ≡ length m
  pub mem : parts m₁ ≡ d.mem
  pub regs : r₁ ≡ d.regs
  pub row : out₁ ≡ lent_after out 0 t
  pub uses : d.regs.used ≡ 0 + length (with_room 0 t)

begun_stands : (m out m₁ : List ℕ) (r₁ : Registers) (out₁ : List ℕ) (d : Did) (t : Option (List ℕ)) → Begun m out m₁ r₁ out₁ d t → Stands out 0 t out₁ r₁.used
begun_stands m out m₁ r₁ out₁ d t h = stands out out₁ 0 r₁.used t h.wide (omega arith) h.row (ap (λ r. r.used) h.regs ∙ h.uses)

pub begun_behind : (m out m₁ : List ℕ) (r₁ : Registers) (out₁ : List ℕ) (d : Did) (t : Option (List ℕ)) → Begun m out m₁ r₁ out₁ d t → PutBehind out 0 out₁ r₁.used
begun_behind m out m₁ r₁ out₁ d t h = (begun_stands m out m₁ r₁ out₁ d t h).behind

pub begun_scene : (m out m₁ : List ℕ) (r₁ : Registers) (out₁ : List ℕ) (d : Did) (t : Option (List ℕ)) → Begun m out m₁ r₁ out₁ d t → scene_in m₁ r₁ out₁ ≡ scene (length m) d (with_room 0 t)
begun_scene m out m₁ r₁ out₁ d t h = same_scene h.size h.mem h.regs (begun_stands m out m₁ r₁ out₁ d t h).row

-- registers as they are loaded have nothing in the row
none_used : (m : List ℕ) → (regs_of m).used ≡ 0
unfolding registers_in
none_used m = refl

-- what is known when something was taken in, by what was told

pub record Taken (m out m₁ : List ℕ) (r₁ : Registers) (out₁ : List ℕ) (ev : Event) : Type 0 where
  pub scene_is : scene_in m₁ r₁ out₁ ≡ taken_in m ev
  pub behind : PutBehind out 0 out₁ r₁.used

begun_taken : (m out m₁ : List ℕ) (r₁ : Registers) (out₁ : List ℕ) (ev : Event) (d : Did) (t : Option (List ℕ)) → Begun m out m₁ r₁ out₁ d t →
    scene (length m) d (with_room 0 t) ≡ taken_in m ev → Taken m out m₁ r₁ out₁ ev
begun_taken m out m₁ r₁ out₁ ev d t h e = record { scene_is = begun_scene m out m₁ r₁ out₁ d t h ∙ e; behind = begun_behind m out m₁ r₁ out₁ d t h }

pub piece_begun : (m out m₁ q : List ℕ) (r : Registers) (i : Input) → 4096 ≤ length out → length m₁ ≡ length m → r ≡ regs_of m →
    parts m₁ ≡ with_lines (parts m) (taken_lines (parts m).lines (waiting r.input (parts m).lines) q) → i ≡ after_taken r.input (waiting r.input (parts m).lines) q →
    Taken m out m₁ (with_input r i) out (bytes q)
piece_begun m out m₁ q r i w l e f g =
    begun_taken m out m₁ (with_input r i) out (bytes q) (piece_taken q (parts m) (regs_of m)) None
    (record {
      wide = w;
      size = l;
      mem = f ∙ ap (λ x. with_lines (parts m) (taken_lines (parts m).lines (waiting x.input (parts m).lines) q)) e;
      regs = ap (λ x. with_input x i) e ∙ ap (with_input (regs_of m)) (g ∙ ap (λ x. after_taken x.input (waiting x.input (parts m).lines) q) e);
      row = refl;
      uses = none_used m;
    }) refl

pub end_begun : (m out : List ℕ) (r : Registers) → 4096 ≤ length out → r ≡ regs_of m → Taken m out m (with_input r (input_of r.input.from r.input.to r.input.cut true)) out no_more
end_begun m out r w e =
    begun_taken m out m (with_input r (input_of r.input.from r.input.to r.input.cut true)) out no_more (end_told (parts m) (regs_of m)) None
    (record {
      wide = w;
      size = refl;
      mem = refl;
      regs = ap (λ x. with_input x (input_of x.input.from x.input.to x.input.cut true)) e;
      row = refl;
      uses = none_used m;
    }) refl

pub next_begun : (m out m₁ : List ℕ) (r r₁ : Registers) (out₁ : List ℕ) → 4096 ≤ length out → length m₁ ≡ length m → r ≡ regs_of m → parts m₁ ≡ (resumed (parts m) r).mem →
    r₁ ≡ (resumed (parts m) r).regs → out₁ ≡ lent_after out r.used (pending_left (parts m) r) → Taken m out m₁ r₁ out₁ next
next_begun m out m₁ r r₁ out₁ w l e f g h =
    let u : (regs_of m).used ≡ 0 = none_used m in
    begun_taken m out m₁ r₁ out₁ next (resumed (parts m) (regs_of m)) (pending_left (parts m) (regs_of m))
    (record {
      wide = w;
      size = l;
      mem = f ∙ ap (λ x. (resumed (parts m) x).mem) e;
      regs = g ∙ ap (λ x. (resumed (parts m) x).regs) e;
      row = h ∙ ap (λ x. lent_after out x.used (pending_left (parts m) x)) e ∙ ap (λ n. lent_after out n (pending_left (parts m) (regs_of m))) u;
      uses = resumed_uses (parts m) (regs_of m) ∙ ap (λ n. n + length (with_room n (pending_left (parts m) (regs_of m)))) u;
    }) refl
