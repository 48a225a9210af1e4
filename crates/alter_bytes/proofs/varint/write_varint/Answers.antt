use Rattle.std.proofs.Common.{◌≡◌, ◌+◌, ◌/◌, ◌%◌, ◌++◌, ◌∷◌, [], take, drop, set, ap, sym, ◌∙◌, arith}
use Rattle.alter_bytes.specs.Varint.{septet_bytes}
use Rattle.alter_bytes.proofs.VarintLemmas.{higher_septets-le, length-septet_bytes, length-varint, varint-long, varint-short, written}
use Rattle.alter_bytes.proofs.varint.write_varint.Goals as goal
use Rattle.alter_bytes.proofs.varint.write_varint.Goals.{then-higher-lt8, else-higher-lt8}

pub overflow_add-result : goal.overflow_add-result
overflow_add-result c = omega (arith, c.count_higher-higher.ensures, higher_septets-le 8 c.args.v)

pub returns-clause-written : goal.returns-clause-written
returns-clause-written c =
    let n = c.count_higher-higher.result in
    let most = higher_septets-le 8 c.args.v in
    elim c.if-higher-lt8.branch [
      | then-higher-lt8 w ↦
          let put = written (septet_bytes n (c.args.v / 128)) n (c.args.v % 128) c.args.out.now (length-septet_bytes n (c.args.v / 128)) (omega arith) in
          ap (take (n + 1)) (w.out-is ∙ w.write_septets.ensures) ∙ put.0
          ∙ ap (λ k. septet_bytes k (c.args.v / 128) ++ (c.args.v % 128) ∷ []) c.count_higher-higher.ensures
          ∙ sym (varint-short c.args.v (omega (arith, c.count_higher-higher.ensures)))
      | else-higher-lt8 w ↦
          let put = written (septet_bytes 8 (c.args.v / 256)) 8 (c.args.v % 256) c.args.out.now (length-septet_bytes 8 (c.args.v / 256)) (omega arith) in
          let nine : n + 1 ≡ 9 = omega (arith, c.count_higher-higher.ensures) in
          ap (take (n + 1)) (w.out-is ∙ w.write_septets-else-higher-lt8.ensures)
          ∙ ap (λ k. take k (septet_bytes 8 (c.args.v / 256) ++ drop 8 (set c.args.out.now 8 (c.args.v % 256)))) nine
          ∙ put.0 ∙ sym (varint-long c.args.v (omega (arith, c.count_higher-higher.ensures)))
    ]

pub returns-clause-length : goal.returns-clause-length
returns-clause-length c = omega (arith, c.count_higher-higher.ensures, length-varint c.args.v)
