-- The worked examples hold: the whole table by one computed test, and what is over is over at any greater depth.
use Rattle.std.proofs.Common.{◌≡◌, ℕ, ◌+◌, Bool, true, false, List, [], ◌∷◌, refl, ap, ◌∙◌}
use Rattle.std.proofs.lemmas.Bool.{and_parts}
use Rattle.language.specs.Text
use Rattle.language.specs.Text.{every, same}
use Rattle.language.specs.Program
use Rattle.language.specs.Program.{reads}
use Rattle.language.specs.Meaning
use Rattle.language.specs.Meaning.{Went, went, nexted, stopped, given, wrong, unfinished, outcome}
use Rattle.language.specs.Promise.{over, DeeperSame}
use Rattle.language.specs.Examples.{Example, examples, two_lines, came_to, all_written, Each, Worked}
use Rattle.language.proofs.Lists.{same_is}
use Rattle.language.proofs.Runs.{deeper_same}

reading : ℕ
unfolding Program.tokens Program.word_part Program.after_word Program.digits_part Program.past_digits Program.past_line Program.quote_part Program.past_quote Program.pair_sign Program.quote_ends Text.same Text.leading Program.program Program.block Program.term Program.names Program.whole_program Program.joined_deeds Program.compare_sign Program.pattern Program.spans Program.whole_pattern
reading = 0

computing : ℕ
unfolding reading Text.digits Text.as_text Text.no_blanks Text.after_digits Text.signed Text.number_of Text.only_digits Text.unsigned Text.looks Text.within Text.sum Text.opposite Text.product Text.quotient Text.less_number Text.less Text.alike Text.holds Text.fields_from Text.joined Text.earlier Text.with_all Text.again Text.ends Text.greatest Text.first_match Text.swap_from Meaning.binds_size Meaning.weight Meaning.bound Meaning.set_bound Meaning.var_of Meaning.set_var Meaning.nth_part Meaning.set_part Meaning.as_got Meaning.field_number Meaning.field_got Meaning.store_field Meaning.reckon Meaning.reckon_one Meaning.item_of Meaning.set_item Meaning.place_in Meaning.cut_from Meaning.first_full Meaning.pieces Meaning.numbered Meaning.fun_of Meaning.framed Meaning.over_keys Meaning.eval_all Meaning.place_got Meaning.in_place Meaning.put_place Meaning.eval_by Meaning.deed_by Meaning.deeds_by Meaning.eval Meaning.rules_go Meaning.begun Meaning.lined Meaning.over_lines Meaning.ended Meaning.whole_lines Meaning.last_line Meaning.so_far Meaning.outcome
computing = 0

abbrev one_text : List (List ℕ) → List ℕ → Bool
one_text [] w = false
one_text (b ∷ []) w = same b w
one_text (b ∷ c ∷ cs) w = false

abbrev test : Example → Bool
test x = one_text (came_to 60 (reads x.program) two_lines) x.written

all_pass : every test examples ≡ true
unfolding computing
all_pass = refl

one_text_is : (bs : List (List ℕ)) (w : List ℕ) → one_text bs w ≡ true → bs ≡ w ∷ []
one_text_is [] w e = cc
one_text_is (b ∷ []) w e = ap (λ x. x ∷ []) (same_is b w e)
one_text_is (b ∷ c ∷ cs) w e = cc

-- what ended by itself is over
written_over : (w : Went) (b : List ℕ) → all_written w ≡ b ∷ [] → over w ≡ true
unfolding over
written_over (went s) b e = refl
written_over (nexted s) b e = refl
written_over (stopped k s) b e = refl
written_over (given v s) b e = refl
written_over (wrong k s) b e = refl
written_over (unfinished s) b e = cc

came_deeper : (f k : ℕ) (ps : List Program.Program) (bs w : List ℕ) → came_to f ps bs ≡ w ∷ [] → came_to (k + f) ps bs ≡ w ∷ []
unfolding DeeperSame
came_deeper f k [] bs w e = cc
came_deeper f k (p ∷ []) bs w e = ap all_written (deeper_same p bs f k (written_over (outcome f p bs) w e)) ∙ e
came_deeper f k (p ∷ q ∷ ps) bs w e = cc

each_passed : (xs : List Example) → every test xs ≡ true → Each (λ x. (k : ℕ) → came_to (k + 60) (reads x.program) two_lines ≡ x.written ∷ []) xs
each_passed [] e = tt
each_passed (x ∷ xs) e =
    let t = and_parts (test x) (every test xs) e in
    (λ k. came_deeper 60 k (reads x.program) two_lines x.written (one_text_is (came_to 60 (reads x.program) two_lines) x.written t.0), each_passed xs t.1)

pub worked : Worked
worked = each_passed examples all_pass
