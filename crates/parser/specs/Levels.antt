-- Levels of precedence: what the grammar reads at each, what goes on behind an operand, and at which level what follows binds. Assumes nothing:
-- these are definitions.
use Rattle.std.specs.Prelude.{ℕ, zero, suc, ◌+◌, ◌*◌, ◌≤◌, Bool, not, ◌&&◌, List, [], ◌∷◌, length, ◌==◌, nat_le}
use Rattle.language.specs.Text.{pick, or}
use Rattle.language.specs.Program.{Term, un, bin, like, there, put_in, Token, got, with_got, Reads, sees, sees_word, rest, name_of, pattern_here, can_set, begins_joined, compare_sign, w_in, term, ors, more_ors, ands, more_ands, likes, compares, joins, more_joins, sums, more_sums, products, more_products, unary}

-- the levels: 0 =, 1 ||, 2 &&, 3 ~ !~ in, 4 comparing, 5 joining, 6 + -, 7 * / %, 8 signs before
abbrev pub at : ℕ → ℕ → List Token → Reads Term
at N zero ts = term N ts
at N (suc zero) ts = ors N ts
at N (suc (suc zero)) ts = ands N ts
at N (suc (suc (suc zero))) ts = likes N ts
at N (suc (suc (suc (suc zero)))) ts = compares N ts
at N (suc (suc (suc (suc (suc zero))))) ts = joins N ts
at N (suc (suc (suc (suc (suc (suc zero)))))) ts = sums N ts
at N (suc (suc (suc (suc (suc (suc (suc zero))))))) ts = products N ts
at N (suc (suc (suc (suc (suc (suc (suc (suc k)))))))) ts = unary N ts

abbrev pub set_part : ℕ → Term → List Token → Reads Term
set_part N a us = pick (sees 61 us && can_set a) (with_got (term N (rest us)) (λ b vs. got (put_in a b) vs)) (got a us)

abbrev pub like_part : Term → List Token → Reads Term
like_part a us =
    pick (sees 126 us) (with_got (pattern_here (rest us)) (λ p vs. got (like a p) vs))
    (pick (sees 7 us) (with_got (pattern_here (rest us)) (λ p vs. got (un 0 (like a p)) vs))
    (pick (sees_word w_in us) (with_got (name_of (rest us)) (λ x vs. got (there a x) vs)) (got a us)))

abbrev pub compare_part : ℕ → Term → List Token → Reads Term
compare_part N a us = pick (compare_sign us == 0) (got a us) (with_got (joins N (rest us)) (λ b vs. got (bin (compare_sign us) a b) vs))

-- what goes on at a level after an operand
abbrev pub more : ℕ → ℕ → Term → List Token → Reads Term
more N zero a us = set_part N a us
more N (suc zero) a us = more_ors N a us
more N (suc (suc zero)) a us = more_ands N a us
more N (suc (suc (suc zero))) a us = like_part a us
more N (suc (suc (suc (suc zero)))) a us = compare_part N a us
more N (suc (suc (suc (suc (suc zero))))) a us = more_joins N a us
more N (suc (suc (suc (suc (suc (suc zero)))))) a us = more_sums N a us
more N (suc (suc (suc (suc (suc (suc (suc zero))))))) a us = more_products N a us
more N (suc (suc (suc (suc (suc (suc (suc (suc k)))))))) a us = got a us

-- there is fuel enough
abbrev pub Enough : ℕ → List Token → Type 0
Enough N ts = 16 * length ts + 16 ≤ N

-- what goes on from below the level h down to the level r
abbrev pub from : ℕ → ℕ → ℕ → Term → List Token → Reads Term
from N r zero a us = got a us
from N r (suc h) a us = pick (nat_le r h) (with_got (more N h a us) (λ b vs. from N r h b vs)) (got a us)

-- which level what follows an operand binds at: 0 none, else one more than the level
abbrev pub chain : ℕ → List Bool → ℕ
chain n [] = 0
chain n (b ∷ bs) = pick b n (chain (suc n) bs)

abbrev pub tests : Term → List Token → List Bool
tests a us =
    (sees 61 us && can_set a) ∷ sees 6 us ∷ sees 5 us ∷ or (sees 126 us) (or (sees 7 us) (sees_word w_in us)) ∷ not (compare_sign us == 0) ∷ begins_joined us
    ∷ or (sees 43 us) (sees 45 us) ∷ or (sees 42 us) (or (sees 47 us) (sees 37 us)) ∷ []

abbrev pub level_of : Term → List Token → ℕ
level_of a us = chain 1 (tests a us)
