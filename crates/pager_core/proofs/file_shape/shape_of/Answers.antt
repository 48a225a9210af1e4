use Rattle.std.proofs.Common.{arith, rules}
use Rattle.pager_core.proofs.Sound.{accepted_count, accepted_format, accepted_size, is_shape}
use Rattle.pager_core.proofs.file_shape.shape_of.Goals as goal

pub page_count-count-requires-clause-size : goal.page_count-count-requires-clause-size
page_count-count-requires-clause-size c = accepted_size c.args.header.now c.args.len c.requires.accepted

pub overflow_cast-result : goal.overflow_cast-result
overflow_cast-result c = omega (arith, accepted_count c.args.header.now c.args.len c.requires.accepted)

pub overflow_cast-result-2 : goal.overflow_cast-result-2
overflow_cast-result-2 c = omega (arith, accepted_format c.args.header.now c.args.len c.requires.accepted)

pub returns-clause-sound : goal.returns-clause-sound
returns-clause-sound c = is_shape c.args.header.now c.args.len _ c.requires.accepted (search rules)
