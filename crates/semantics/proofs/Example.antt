-- The small program, computed.
use Rattle.std.proofs.Common.{refl}
use Rattle.language.specs.Text
use Rattle.language.specs.Program
use Rattle.language.specs.Meaning
use Rattle.semantics.specs.Stack.{times}
use Rattle.semantics.specs.Code.{count, two_code, body_code, print_code, deeds_code}
use Rattle.semantics.specs.Example.{SmallExample}

pub small_example : SmallExample
unfolding times count two_code body_code print_code deeds_code Program.tokens Program.word_part Program.after_word Program.digits_part Program.past_digits Program.past_line Program.quote_part Program.past_quote Program.pair_sign Program.quote_ends Text.same Text.leading Program.program Program.block Program.term Program.names Program.whole_program Program.joined_deeds Program.compare_sign Program.pattern Program.spans Program.whole_pattern Text.digits Text.as_text Text.no_blanks Text.after_digits Text.signed Text.number_of Text.only_digits Text.unsigned Text.looks Text.within Text.sum Text.opposite Text.product Text.quotient Text.less_number Text.less Text.alike Text.holds Text.fields_from Text.joined Text.earlier Text.with_all Text.again Text.ends Text.greatest Text.first_match Text.swap_from Meaning.binds_size Meaning.weight Meaning.bound Meaning.set_bound Meaning.var_of Meaning.set_var Meaning.nth_part Meaning.set_part Meaning.as_got Meaning.field_number Meaning.field_got Meaning.store_field Meaning.reckon Meaning.reckon_one Meaning.item_of Meaning.set_item Meaning.place_in Meaning.cut_from Meaning.first_full Meaning.pieces Meaning.numbered Meaning.fun_of Meaning.framed Meaning.over_keys Meaning.eval_all Meaning.place_got Meaning.in_place Meaning.put_place Meaning.eval_by Meaning.deed_by Meaning.deeds_by Meaning.eval Meaning.rules_go Meaning.begun Meaning.lined Meaning.over_lines Meaning.ended Meaning.whole_lines Meaning.last_line Meaning.so_far Meaning.outcome
small_example = (refl, refl, refl)
