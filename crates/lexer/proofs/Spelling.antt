-- Equal spellings, as a test, and the reserved words by their numbers.
use Rattle.std.proofs.Common.{◌≡◌, ℕ, Bool, true, false, ◌∙◌, ◌&&◌, eqb, eqb-true, eq-eqb, ne_eqb, List, [], ◌∷◌, length, get_or, drop, drop-cons, suc, ◌+◌, ◌-◌, ◌<◌, ◌≤◌, add-one, sym, refl, ap, arith}
use Rattle.std.proofs.lemmas.List.{drop_all}
use borrow.Author.Tests.{eqb-false}
use Rattle.language.specs.Text.{pick, same}
use Rattle.language.proofs.Lists.{same_is}
use Rattle.lexer.specs.Marks.{keyword_at}
use Rattle.lexer.specs.declared.tokens.Keyword.{Keyword}
use Rattle.lexer.specs.declared.tokens.Keyword.TheVariants.{Begin, End, Function, If, Else, While, For, In, Print, Next, Exit, Delete, Return, Length, Upper, Index, Substr, Split, Swap}

pub differ_in_length : (xs ys : List ℕ) → (length xs ≡ length ys → ⊥) → false ≡ same xs ys
unfolding same
differ_in_length [] [] h = absurd (h refl)
differ_in_length [] (y ∷ ys) h = refl
differ_in_length (x ∷ xs) [] h = refl
differ_in_length (x ∷ xs) (y ∷ ys) h = go (eqb x y) (differ_in_length xs ys (λ e. h (ap suc e)))
  where
    go : (b : Bool) → false ≡ same xs ys → false ≡ (b && same xs ys)
    go true e = e
    go false e = refl

pub differ_here : (xs ys : List ℕ) (i : ℕ) → i < length xs → i < length ys → (get_or xs i 0 ≡ get_or ys i 0 → ⊥) → same (drop i xs) (drop i ys) ≡ false
unfolding same
differ_here xs ys i h k n = rw (drop-cons xs i 0 h, drop-cons ys i 0 k, ne_eqb (get_or xs i 0) (get_or ys i 0) n) refl

pub same_here : (xs ys : List ℕ) (i : ℕ) → i < length xs → i < length ys → get_or xs i 0 ≡ get_or ys i 0 → same (drop i xs) (drop i ys) ≡ same (drop (i + 1) xs) (drop (i + 1) ys)
unfolding same
same_here xs ys i h k e = rw (drop-cons xs i 0 h, drop-cons ys i 0 k, eq-eqb (get_or xs i 0) (get_or ys i 0) e, add-one i) refl

pub same_done : (xs ys : List ℕ) (i : ℕ) → length xs ≤ i → length ys ≤ i → same (drop i xs) (drop i ys) ≡ true
unfolding same
same_done xs ys i h k = rw (drop_all i xs h, drop_all i ys k) refl

pub spelled_same : (w p : List ℕ) → true ≡ same w p → w ≡ p
spelled_same w p e = same_is w p (sym e)

-- all the reserved words
abbrev pub all : List Keyword
all = Begin ∷ End ∷ Function ∷ If ∷ Else ∷ While ∷ For ∷ In ∷ Print ∷ Next ∷ Exit ∷ Delete ∷ Return ∷ Length ∷ Upper ∷ Index ∷ Substr ∷ Split ∷ Swap ∷ []

-- the words by their numbers, from k on
abbrev numbered : ℕ → List Keyword → Keyword → ℕ → Keyword
numbered k [] d n = d
numbered k (j ∷ js) d n = pick (eqb n k) j (numbered (k + 1) js d n)

numbered_is : (k : ℕ) (js : List Keyword) (d : Keyword) (n : ℕ) → k ≤ n → get_or js (n - k) d ≡ numbered k js d n
numbered_is k [] d n h = refl
numbered_is k (j ∷ js) d n h = go (numbered_is (k + 1) js d n) (eqb n k) refl
  where
    go : (k + 1 ≤ n → get_or js (n - (k + 1)) d ≡ numbered (k + 1) js d n) → (b : Bool) → eqb n k ≡ b → get_or (j ∷ js) (n - k) d ≡ pick b j (numbered (k + 1) js d n)
    go ih true t = let q = eqb-true n k t in let e : n - k ≡ 0 = omega arith in rw e refl
    go ih false t =
        let q = eqb-false n k t in
        let e : n - k ≡ suc (n - (k + 1)) = omega arith in
        rw e (ih (omega arith))

either_way : (b : Bool) (k : Keyword) → pick b k k ≡ k
either_way true k = refl
either_way false k = refl

pub keyword_numbered : (n : ℕ) → get_or all n Swap ≡ keyword_at n
keyword_numbered n =
    let e : n - 0 ≡ n = omega arith in
    ap (λ i. get_or all i Swap) (sym e) ∙ numbered_is 0 all Swap n (omega arith) ∙ rw (either_way (eqb n 18) Swap) refl
