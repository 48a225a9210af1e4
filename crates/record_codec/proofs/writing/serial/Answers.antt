use Rattle.std.proofs.Common.{rules, ℕ, ◌+◌, ◌*◌, ◌^◌, ◌<◌, sym, subst, arith}
use Rattle.std.specs.Prelude.{FitsSigned}
use Rattle.std.specs.Int.{w64}
use Rattle.record_codec.specs.Written.{IsWritable}
use Rattle.record_codec.proofs.Writable.{bits_of-lt, blob_writable, if_ok_so, integer_writable, null_writable, real_writable, text_writable}
use Rattle.record_codec.proofs.writing.serial.Goals as goal

pub returns-in-Null-clause-writable : goal.returns-in-Null-clause-writable
returns-in-Null-clause-writable c = subst (IsWritable c.args.format) (sym c.in-Null.is) (null_writable c.args.format)

pub returns-in-Int-clause-writable : goal.returns-in-Int-clause-writable
returns-in-Int-clause-writable c =
    let fits : FitsSigned w64 c.in-Int.number = search rules in
    subst (IsWritable c.args.format) (sym c.in-Int.is) (integer_writable c.args.format c.in-Int.number (bits_of-lt c.in-Int.number fits))

pub returns-in-Real-clause-writable : goal.returns-in-Real-clause-writable
returns-in-Real-clause-writable c = subst (IsWritable c.args.format) (sym c.in-Real.is) (real_writable c.args.format c.in-Real.real c.real_serial.ensures.len)

pub returns-in-Text-clause-writable : goal.returns-in-Text-clause-writable
returns-in-Text-clause-writable c =
    let len = c.len.ensures in
    if_ok_so (λ (serial : ℕ). 13 + 2 * c.len.result < 2 ^ 64) (IsWritable c.args.format c.args.value.now) c.sized.result
    (λ serial fits. subst (IsWritable c.args.format) (sym c.in-Text.is) (text_writable c.args.format c.in-Text.text (omega (arith, len, fits))))
    c.sized.ensures.fits

pub returns-in-Blob-clause-writable : goal.returns-in-Blob-clause-writable
returns-in-Blob-clause-writable c =
    let len = c.len-in-Blob.ensures in
    if_ok_so (λ (serial : ℕ). 12 + 2 * c.len-in-Blob.result < 2 ^ 64) (IsWritable c.args.format c.args.value.now) c.sized-in-Blob.result
    (λ serial fits. subst (IsWritable c.args.format) (sym c.in-Blob.is) (blob_writable c.args.format c.in-Blob.blob (omega (arith, len, fits))))
    c.sized-in-Blob.ensures.fits
