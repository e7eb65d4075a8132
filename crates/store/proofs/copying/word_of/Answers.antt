use Rattle.store.proofs.Shorts.{row_read}
use Rattle.store.proofs.copying.word_of.Goals as goal

pub returns : goal.returns
returns c = row_read c.args.bytes.now c.from_le_bytes.result c.told-bytes c.fits-bytes c.from_le_bytes.ensures
