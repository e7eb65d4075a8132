-- A call begins with the empty list, and each argument makes it longer, in memory.
use Rattle.std.proofs.Common.{◌≡◌, ℕ, ◌+◌, ◌-◌, ◌<◌, Bool, true, false, ◌&&◌, eqb, List, ◌∷◌, Some, Option, sym, refl, ap, ◌∙◌, ap₂, arith}
use Rattle.language.specs.Program.{Term, Terms, Reads, rest, sees, call, no_terms, term_and}
use Rattle.language.specs.Known.{plain_term, plain_terms}
use Rattle.lexer.specs.Memory.{cell, Kept}
use Rattle.lexer.specs.Marks.{bytes_of, TokensIn}
use Rattle.lexer.specs.Places.{Named, fuel, toks}
use Rattle.lexer.specs.Ahead.{CallHere}
use Rattle.lexer.specs.declared.tokens.Name.{Name}
use Rattle.parser.specs.declared.frames.Frame.TheVariants.{Arguments}
use Rattle.parser.specs.declared.frames.Spot.{Spot}
use Rattle.parser.specs.declared.frames.Turn.{Turn}
use Rattle.parser.specs.declared.nodes.ListNode.TheVariants.{Empty, More as Longer}
use Rattle.parser.specs.declared.nodes.TermNode.TheVariants.{Call}
use Rattle.parser.specs.Nodes.{TermsAt, Listed}
use Rattle.parser.specs.Frames.{Begun, in_call, joined_terms, before, behind, resume, FrameSays, Stack, Before, Ended, Room, effort, Pays, Pushed, Grown, Closing, OnTop}
use Rattle.lexer.proofs.Reach.{rest_toks, rest_two, rest_three, sees_ahead, tokens_kept}
use Rattle.parser.proofs.Keeping.{stack_kept}
use Rattle.parser.proofs.Moves.{enough, low_fits, goes_after, pushed_goes, grown_goes, plain_is, bit_is, made_none, made_more, made_call}
use Rattle.parser.proofs.Openings.{enough_here, before_kept}
use Rattle.parser.proofs.Operands.{op_call, op_call_none, call_more, call_last}
use Rattle.parser.proofs.Endings.{close_goes, topmost, resumed}

-- the empty list was written, at the name of what is called
module _ (bs m m₁ : List ℕ) (count : ℕ) (s : Spot) (v : Name) (room : Room count s.nodes 0 s) (k : TokensIn bs m count) (here : CallHere bs s.place v) (w : Listed m m₁ s.nodes Empty true) where
  kept : Kept 0 s.nodes m m₁
  kept j a b = w.others j (λ z. omega arith)

  call_tokens : TokensIn bs m₁ count
  call_tokens = tokens_kept bs m m₁ count s.nodes (omega (arith, room.few, room.low)) kept k

  named : Named bs v (bytes_of bs v)
  named = record { inside = here.name.inside; is = refl }

  behind_bracket : rest (rest (toks bs s.place)) ≡ toks bs (s.place + 2)
  behind_bracket = ap rest (rest_toks bs s.place) ∙ rest_two bs s.place

  -- what goes on from there
  onwards : (m₂ : List ℕ) (r : Turn) → Pays bs m₁ m₂ count (s.nodes + 1) (effort count s - 2) (Before bs m₁ (record { place = s.place; depth = s.depth; nodes = s.nodes + 1 })) (Some r) → 2 < effort count s → Pays bs m m₂ count s.nodes (effort count s) (Before bs m s) (Some r)
  onwards m₂ r x h =
      goes_after bs m m₁ m₂ count s.nodes (s.nodes + 1) (effort count s) (effort count s - 2) (Before bs m s) (Before bs m₁ (record { place = s.place; depth = s.depth; nodes = s.nodes + 1 })) (Some r) (omega arith) room.low (omega arith) kept
      (λ g y. before_kept bs m m₁ s (s.nodes + 1) g (λ j a b. kept j (omega arith) b) (omega arith) (λ i q. w.others (21120 + i) (λ z. omega (arith, room.nodes, room.within, room.few))) y) x

  -- the bracket closes at once
  pub call_none : (m₂ : List ℕ) (r : Turn) → sees 41 (toks bs (s.place + 2)) ≡ true → Grown m₁ m₂ (record { place = s.place; depth = s.depth; nodes = s.nodes + 1 }) (Call v s.nodes) false 3 8 r → Pays bs m m₂ count s.nodes (effort count s) (Before bs m s) (Some r)
  call_none m₂ r t q =
      let p = s.place in
      let x = bytes_of bs v in
      let s₁ : Spot = record { place = p; depth = s.depth; nodes = s.nodes + 1 } in
      let e = here.name.is in
      let a : p + 2 < count = sees_ahead bs m₁ count (p + 2) 41 call_tokens t in
      onwards m₂ r
      (grown_goes bs m₁ m₂ count (effort count s - 2) (Before bs m₁ s₁) s₁ (Call v s.nodes) false 3 8 r q (omega arith)
      (record { within = omega arith; few = room.few; frames = omega (arith, room.frames); low = omega (arith, room.low); grown = omega arith; nodes = omega (arith, room.nodes) })
      (omega arith)
      (λ g y. (
        y.begun,
        call x no_terms,
        y.stack,
        made_call bs m₁ m₂ (s.nodes + 1) (omega (arith, room.low)) v s.nodes x no_terms named (made_none bs m m₁ s.nodes room.low w) q.made,
        sym (ap (λ us. before (fuel bs) y.begun us) e
            ∙ op_call_none (fuel bs) y.begun (low_fits bs m₁ (s.nodes + 1) s.depth y.begun y.stack) x (rest (toks bs p)) (enough_here bs p e) here.name.fresh (ap (sees 91) (rest_toks bs p) ∙ here.no_item) (ap (sees 40) (rest_toks bs p) ∙ here.calls) (ap (sees 41) behind_bracket ∙ t)
            ∙ ap (λ us. behind (fuel bs) y.begun 8 (call x no_terms) us) (ap rest behind_bracket ∙ rest_three bs p)) ∙ y.means,
      )))
      (omega arith)

  -- an argument is to come
  pub call_some : (m₂ : List ℕ) (r : Turn) → sees 41 (toks bs (s.place + 2)) ≡ false → Pushed m₁ m₂ (record { place = s.place; depth = s.depth; nodes = s.nodes + 1 }) (Arguments v s.nodes) 2 r → Pays bs m m₂ count s.nodes (effort count s) (Before bs m s) (Some r)
  unfolding FrameSays
  call_some m₂ r t q =
      let p = s.place in
      let x = bytes_of bs v in
      let s₁ : Spot = record { place = p; depth = s.depth; nodes = s.nodes + 1 } in
      let e = here.name.is in
      let a : p + 1 < count = sees_ahead bs m₁ count (p + 1) 40 call_tokens here.calls in
      onwards m₂ r
      (pushed_goes bs m₁ m₂ count (effort count s - 2) (Before bs m₁ s₁) s₁ (Arguments v s.nodes) 2 r q
      (record { within = omega arith; few = room.few; frames = omega (arith, room.frames); low = omega (arith, room.low); grown = omega arith; nodes = omega (arith, room.nodes) })
      (omega arith)
      (λ g y. (
        y.begun,
        in_call x no_terms,
        y.stack,
        (x, no_terms, named, made_none bs m m₁ s.nodes room.low w, refl),
        sym (ap (λ us. before (fuel bs) y.begun us) e
            ∙ op_call (fuel bs) y.begun (low_fits bs m₁ (s.nodes + 1) s.depth y.begun y.stack) x (rest (toks bs p)) (enough_here bs p e) here.name.fresh (ap (sees 91) (rest_toks bs p) ∙ here.no_item) (ap (sees 40) (rest_toks bs p) ∙ here.calls) (ap (sees 41) behind_bracket ∙ t)
            ∙ ap (λ us. before (fuel bs) (in_call x no_terms ∷ y.begun) us) behind_bracket) ∙ y.means,
      )))
      (omega arith)

-- the list was made longer by an argument
module _ (bs m m₁ : List ℕ) (count : ℕ) (s : Spot) (i : ℕ) (v : Name) (l : ℕ) (p : Bool) (room : Room count s.nodes 1 s) (k : TokensIn bs m count) (o : OnTop m s (Arguments v l)) (w : Listed m m₁ s.nodes (Longer l i) p)
    (plain : p ≡ (eqb (cell m l).flag 1 && eqb (cell m i).flag 1)) where
  kept_then : Kept 0 s.nodes m m₁
  kept_then j a b = w.others j (λ z. omega arith)

  argument_tokens : TokensIn bs m₁ count
  argument_tokens = tokens_kept bs m m₁ count s.nodes (omega (arith, room.few, room.low)) kept_then k

  -- what was called, with which arguments so far, and the frames below
  called : (g : Reads Term) (y : Ended bs m s i g) →
      (x : List ℕ) × (ts : Terms) × (fs : List Begun) × Named bs v x × Stack bs m s.nodes (s.depth - 1) fs × Stack bs m₁ (s.nodes + 1) (s.depth - 1) fs
      × TermsAt bs m₁ (s.nodes + 1) s.nodes (joined_terms ts (term_and y.operand no_terms)) × (resume (fuel bs) (in_call x ts ∷ fs) y.operand (toks bs s.place) ≡ g)
  unfolding FrameSays
  called g y =
      let t = topmost bs m s i (Arguments v l) g o y in
      let x = t.says in
      let e : p ≡ (plain_terms x.1 && plain_term y.operand) = plain ∙ ap₂ (λ a b. a && b) (ap (λ f. eqb f 1) x.3.plain ∙ bit_is (plain_terms x.1)) (plain_is bs m s.nodes i y.operand y.tree) in (
        x.0,
        x.1,
        t.others,
        x.2,
        t.stack,
        stack_kept bs m m₁ s.nodes (s.nodes + 1) (λ j a b. kept_then j (omega arith) b) (omega arith) (s.depth - 1) t.others (λ j q. w.others (21120 + j) (λ z. let d = o.deep in omega (arith, room.nodes, room.within, room.few))) t.stack,
        made_more bs m m₁ s.nodes room.low l i p x.1 y.operand e x.3 y.tree w,
        resumed bs m s i (Arguments v l) g y t (in_call x.0 x.1) x.4,
      )

  -- another argument is to come
  pub argument_more : (m₂ : List ℕ) (r : Turn) → sees 44 (toks bs s.place) ≡ true → Pushed m₁ m₂ (record { place = s.place; depth = s.depth - 1; nodes = s.nodes + 1 }) (Arguments v s.nodes) 1 r →
      Pays bs m m₂ count s.nodes (effort count s + 3) (Ended bs m s i) (Some r)
  unfolding FrameSays
  argument_more m₂ r t q =
      let s₁ : Spot = record { place = s.place; depth = s.depth - 1; nodes = s.nodes + 1 } in
      let ts = toks bs s.place in
      let d = o.deep in
      let a : s.place < count = sees_ahead bs m count s.place 44 k t in
      goes_after bs m m₁ m₂ count s.nodes (s.nodes + 1) (effort count s + 3) (effort count s + 1) (Ended bs m s i) (Ended bs m s i) (Some r) (omega arith) room.low (omega arith) kept_then (λ g y. y)
      (pushed_goes bs m₁ m₂ count (effort count s + 1) (Ended bs m s i) s₁ (Arguments v s.nodes) 1 r q
      (record { within = omega arith; few = room.few; frames = omega (arith, room.frames); low = omega (arith, room.low); grown = omega arith; nodes = omega (arith, room.nodes) })
      (omega arith)
      (λ g y.
      let c = called g y in
      let us = joined_terms c.1 (term_and y.operand no_terms) in (
        c.2,
        in_call c.0 us,
        c.5,
        (c.0, us, c.3, c.6, refl),
        ap (λ vs. before (fuel bs) (in_call c.0 us ∷ c.2) vs) (sym (rest_toks bs s.place))
            ∙ sym (call_more (fuel bs) c.2 (low_fits bs m s.nodes (s.depth - 1) c.2 c.4) c.0 c.1 y.operand ts (enough bs s.place) t) ∙ c.7,
      )))

  -- the bracket closes
  pub argument_last : (m₂ : List ℕ) (r : Option Turn) → sees 44 (toks bs s.place) ≡ false → Closing m₁ m₂ (record { place = s.place; depth = s.depth - 1; nodes = s.nodes + 1 }) (Call v s.nodes) false r (sees 41 (toks bs s.place)) →
      Pays bs m m₂ count s.nodes (effort count s + 3) (Ended bs m s i) r
  argument_last m₂ r t q =
      let s₁ : Spot = record { place = s.place; depth = s.depth - 1; nodes = s.nodes + 1 } in
      let ts = toks bs s.place in
      let d = o.deep in
      goes_after bs m m₁ m₂ count s.nodes (s.nodes + 1) (effort count s + 3) (effort count s + 1) (Ended bs m s i) (Ended bs m s i) r (omega arith) room.low (omega arith) kept_then (λ g y. y)
      (close_goes bs m₁ m₂ count (effort count s + 1) (Ended bs m s i) s₁ (Call v s.nodes) false 41 r q
      (λ z. let a : s.place < count = sees_ahead bs m count s.place 41 k z in record { within = omega arith; few = room.few; frames = omega (arith, room.frames); low = omega (arith, room.low); grown = omega arith; nodes = omega (arith, room.nodes) })
      (λ z. omega arith)
      (λ g y.
      let c = called g y in
      let us = joined_terms c.1 (term_and y.operand no_terms) in (
        c.2,
        call c.0 us,
        c.5,
        made_call bs m₁ m₂ (s.nodes + 1) (omega (arith, room.low)) v s.nodes c.0 us c.3 c.6,
        sym (call_last (fuel bs) c.2 (low_fits bs m s.nodes (s.depth - 1) c.2 c.4) c.0 c.1 y.operand ts t) ∙ c.7,
      )))
