use Rattle.page_cells.proofs.FieldLemmas.{length_found, length_most, length_none}
use Rattle.page_cells.proofs.fields.payload_at.Goals as goal

pub returns-in-IndexInner : goal.returns-in-IndexInner
returns-in-IndexInner c = record {
  found = length_found c.args.kind c.args.page.now c.args.at c.read_varint.result c.in-IndexInner.is c.read_varint.ensures.exact;
  most = length_most c.args.page.now c.args.at c.read_varint.result c.read_varint.ensures.exact;
  none = length_none c.args.kind c.args.page.now c.args.at c.read_varint.result c.in-IndexInner.is c.read_varint.ensures.exact;
}
