use Rattle.std.proofs.Common.{◌≡◌, take}
use Rattle.std.specs.List.{AllByRecursion}
use Rattle.record_codec.specs.Written.{IsWritable, types_of}
use Rattle.record_codec.proofs.writing.serials.Given as goal

-- the serial types of the values so far
abbrev pub invariant-loop-value : goal.invariant-loop-value
invariant-loop-value l =
    (l.types.items ≡ types_of l.format (take l.value-index l.values)) × AllByRecursion (IsWritable l.format) (take l.value-index l.values)
