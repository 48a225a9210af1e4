use Rattle.std.proofs.Common.{◌≡◌, ◌++◌, take}
use Rattle.alter_bytes.specs.Varint.{varint}
use Rattle.record_codec.specs.Written.{bodies_of}
use Rattle.record_codec.proofs.writing.encode.Given as goal

-- the header, and the bodies of the values so far
abbrev pub invariant-loop-value : goal.invariant-loop-value
invariant-loop-value l = l.bytes.items ≡ varint l.size ++ l.types.items ++ bodies_of l.format (take l.value-index l.values)
