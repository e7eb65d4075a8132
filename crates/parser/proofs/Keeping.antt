-- What is represented stays represented when nodes and frames are added.
use Rattle.std.proofs.Common.{◌≡◌, ℕ, zero, suc, ◌+◌, ◌<◌, ◌≤◌, Bool, List, [], ◌∷◌, sym, refl, ap, ◌∙◌, subst, arith}
use Rattle.language.specs.Program.{Term, num, txt, var, item, field, un, bin, like, there, put_in, call, part, split, swap, Terms, no_terms, term_and}
use Rattle.language.specs.Known.{plain_terms}
use Rattle.lexer.specs.Memory.{cell, Kept}
use Rattle.lexer.specs.declared.cells.Cell.{Cell}
use Rattle.parser.specs.declared.nodes.TermNode.{TermNode}
use Rattle.parser.specs.declared.nodes.ListNode.{ListNode}
use Rattle.parser.specs.declared.frames.Frame.{Frame}
use Rattle.parser.specs.declared.frames.Frame.TheVariants.{Infix, Prefixed, Dollar, Assigning, Group, Indexing, Measuring, IndexFirst, IndexSecond, PartFirst, PartSecond, PartThird, SplitFirst, SwapFirst, SwapSecond, Arguments}
use Rattle.parser.specs.Nodes.{term_of, list_of, bit, At, ListAt, Tree, Chain, TermsAt}
use Rattle.parser.specs.Frames.{Begun, FrameSays, Stack, frame_of}

module _ (bs m m₁ : List ℕ) (n n₁ : ℕ) (k : Kept 8448 n m m₁) (l : n ≤ n₁) where
  pub at_kept : (i : ℕ) (x : TermNode) (p : Bool) → At m n i x p → At m₁ n₁ i x p
  at_kept i x p a =
      let e : cell m₁ i ≡ cell m i = k i a.low a.below in
      record { low = a.low; below = let b = a.below in omega arith; is = ap term_of e ∙ a.is; plain = ap (λ (c : Cell). c.flag) e ∙ a.plain }

  pub list_kept : (i : ℕ) (x : ListNode) → ListAt m n i x → ListAt m₁ n₁ i x
  list_kept i x a = record { low = a.low; below = let b = a.below in omega arith; is = ap list_of (k i a.low a.below) ∙ a.is }

  -- the last node of a list stands among the nodes too
  pub chain_within : (i e : ℕ) (ts : Terms) → Chain bs m n i e ts → 8448 ≤ e → e < n → (8448 ≤ i) × (i < n)
  unfolding Chain
  chain_within i e no_terms c p q = (omega arith, omega arith)
  chain_within i e (term_and t ts) c p q = chain_within i c.0 ts c.4 c.2.low c.2.below

  flag_kept : (i : ℕ) (p : Bool) → 8448 ≤ i → i < n → (cell m i).flag ≡ bit p → (cell m₁ i).flag ≡ bit p
  flag_kept i p a b e = ap (λ (c : Cell). c.flag) (k i a b) ∙ e

  mutual
    unfolding Tree Chain

    pub tree_kept : (t : Term) (i : ℕ) → Tree bs m n i t → Tree bs m₁ n₁ i t
    tree_kept (num v) i x = at_kept i _ _ x
    tree_kept (txt b) i x = (x.0, at_kept i _ _ x.1, x.2)
    tree_kept (var v) i x = (x.0, at_kept i _ _ x.1, x.2)
    tree_kept (item v a) i x = (x.0, x.1, at_kept i _ _ x.2, x.3, tree_kept a x.1 x.4)
    tree_kept (field a) i x = (x.0, at_kept i _ _ x.1, tree_kept a x.0 x.2)
    tree_kept (un o a) i x = (x.0, x.1, at_kept i _ _ x.2, x.3, tree_kept a x.1 x.4)
    tree_kept (bin o a b) i x = (x.0, x.1, x.2, at_kept i _ _ x.3, x.4, tree_kept a x.1 x.5, tree_kept b x.2 x.6)
    tree_kept (like a p) i x = (x.0, x.1, at_kept i _ _ x.2, tree_kept a x.0 x.3, x.4)
    tree_kept (there a v) i x = (x.0, x.1, at_kept i _ _ x.2, tree_kept a x.0 x.3, x.4)
    tree_kept (put_in a b) i x = (x.0, x.1, at_kept i _ _ x.2, tree_kept a x.0 x.3, tree_kept b x.1 x.4)
    tree_kept (call v ts) i x =
        let w = chain_within x.1 x.2 ts x.7 x.5.low x.5.below in
        (x.0, x.1, x.2, at_kept i _ _ x.3, x.4, list_kept x.2 _ x.5, flag_kept x.1 (plain_terms ts) w.0 w.1 x.6, chain_kept ts x.1 x.2 x.7)
    tree_kept (part a b c) i x = (x.0, x.1, x.2, at_kept i _ _ x.3, tree_kept a x.0 x.4, tree_kept b x.1 x.5, tree_kept c x.2 x.6)
    tree_kept (split a v p) i x = (x.0, x.1, x.2, at_kept i _ _ x.3, tree_kept a x.0 x.4, x.5, x.6)
    tree_kept (swap p a b) i x = (x.0, x.1, x.2, at_kept i _ _ x.3, x.4, tree_kept a x.1 x.5, tree_kept b x.2 x.6)

    pub chain_kept : (ts : Terms) (i e : ℕ) → Chain bs m n i e ts → Chain bs m₁ n₁ i e ts
    chain_kept no_terms i e x = x
    chain_kept (term_and t ts) i e x = (x.0, x.1, list_kept x.0 _ x.2, tree_kept t x.1 x.3, chain_kept ts i x.0 x.4)

  pub terms_kept : (i : ℕ) (ts : Terms) → TermsAt bs m n i ts → TermsAt bs m₁ n₁ i ts
  terms_kept i ts x =
      let w = chain_within i x.first ts x.chain x.empty.low x.empty.below in
      record { first = x.first; empty = list_kept x.first _ x.empty; plain = flag_kept i (plain_terms ts) w.0 w.1 x.plain; chain = chain_kept ts i x.first x.chain }

  pub frame_kept : (f : Frame) (g : Begun) → FrameSays bs m n f g → FrameSays bs m₁ n₁ f g
  unfolding FrameSays
  frame_kept (Infix v o i) g x = (x.0, x.1, x.2, x.3, tree_kept x.1 i x.4, x.5)
  frame_kept (Prefixed p) g x = x
  frame_kept Dollar g x = x
  frame_kept (Assigning i) g x = (x.0, tree_kept x.0 i x.1, x.2)
  frame_kept Group g x = x
  frame_kept (Indexing v) g x = x
  frame_kept (Measuring p) g x = x
  frame_kept IndexFirst g x = x
  frame_kept (IndexSecond i) g x = (x.0, tree_kept x.0 i x.1, x.2)
  frame_kept PartFirst g x = x
  frame_kept (PartSecond i) g x = (x.0, tree_kept x.0 i x.1, x.2)
  frame_kept (PartThird i j) g x = (x.0, x.1, tree_kept x.0 i x.2, tree_kept x.1 j x.3, x.4)
  frame_kept SplitFirst g x = x
  frame_kept (SwapFirst q) g x = x
  frame_kept (SwapSecond q i) g x = (x.0, x.1, x.2, tree_kept x.1 i x.3, x.4)
  frame_kept (Arguments v i) g x = (x.0, x.1, x.2, terms_kept i x.1 x.3, x.4)

  pub stack_kept : (d : ℕ) (fs : List Begun) → ((e : ℕ) → e < d → cell m₁ (21120 + e) ≡ cell m (21120 + e)) → Stack bs m n d fs → Stack bs m₁ n₁ d fs
  unfolding Stack
  stack_kept zero [] h x = x
  stack_kept zero (f ∷ fs) h x = x
  stack_kept (suc d) [] h x = x
  stack_kept (suc d) (f ∷ fs) h x =
      (subst (λ c. FrameSays bs m₁ n₁ (frame_of c) f) (sym (h d (omega arith))) (frame_kept (frame_of (cell m (21120 + d))) f x.0), stack_kept d fs (λ e q. h e (omega arith)) x.1)

-- the frame on top
pub record Top (bs m : List ℕ) (n d : ℕ) (f : Frame) (fs : List Begun) : Type 0 where
  pub first : Begun
  pub others : List Begun
  pub is : fs ≡ first ∷ others
  pub says : FrameSays bs m n f first
  pub stack : Stack bs m n d others

pub top : (bs m : List ℕ) (n depth d : ℕ) (f : Frame) (fs : List Begun) → depth ≡ suc d → f ≡ frame_of (cell m (21120 + d)) → Stack bs m n depth fs → Top bs m n d f fs
unfolding Stack
top bs m n depth d f fs e q x = go fs (subst (λ k. Stack bs m n k fs) e x)
  where
    go : (gs : List Begun) → Stack bs m n (suc d) gs → Top bs m n d f gs
    go [] y = absurd y
    go (g ∷ gs) y = record { first = g; others = gs; is = refl; says = subst (λ h. FrameSays bs m n h g) (sym q) y.0; stack = y.1 }

pub top_push : (bs m m₁ : List ℕ) (n d : ℕ) (f : Frame) (g : Begun) (fs : List Begun) → frame_of (cell m₁ (21120 + d)) ≡ f → ((j : ℕ) → (j ≡ 21120 + d → ⊥) → cell m₁ j ≡ cell m j) → n ≤ 21120 →
    FrameSays bs m n f g → Stack bs m n d fs → Stack bs m₁ n (d + 1) (g ∷ fs)
unfolding Stack
top_push bs m m₁ n d f g fs e h q s x =
    let k : Kept 8448 n m m₁ = λ j a b. h j (λ z. omega arith) in
    let y : Stack bs m₁ n (suc d) (g ∷ fs) = (subst (λ c. FrameSays bs m₁ n c g) (sym e) (frame_kept bs m m₁ n n k (omega arith) f g s), stack_kept bs m m₁ n n k (omega arith) d fs (λ i z. h (21120 + i) (λ w. omega arith)) x) in
    let z : suc d ≡ d + 1 = omega arith in
    subst (λ i. Stack bs m₁ n i (g ∷ fs)) z y

pub bottom : (bs m : List ℕ) (n d : ℕ) (fs : List Begun) → d ≡ 0 → Stack bs m n d fs → fs ≡ []
unfolding Stack
bottom bs m n d fs e x = go fs (subst (λ k. Stack bs m n k fs) e x)
  where
    go : (gs : List Begun) → Stack bs m n 0 gs → gs ≡ []
    go [] y = refl
    go (g ∷ gs) y = absurd y
