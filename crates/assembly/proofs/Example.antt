-- The worked example, by computing it.
use Rattle.std.proofs.Common.{refl}
use Rattle.language.specs.Text
use Rattle.language.specs.Program
use Rattle.semantics.specs.Code
use Rattle.assembly.specs.Assembly
use Rattle.assembly.specs.Example.{Worked}

pub worked : Worked
unfolding Program.tokens Program.word_part Program.after_word Program.digits_part Program.past_digits Program.past_line Program.quote_part Program.past_quote Program.pair_sign Program.quote_ends Text.same Text.leading Program.program Program.block Program.term Program.names Program.whole_program Program.joined_deeds Program.compare_sign Code.count Code.two_code Code.body_code Code.print_code Code.deed_code Assembly.slot_of Assembly.with_name Assembly.lean_place Assembly.translated Assembly.assemble Assembly.entries
worked = (refl, refl)
