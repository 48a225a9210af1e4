use Rattle.std.proofs.Common.{◌∙◌, Ok, Err}
use Rattle.alter_disk.proofs.Moments.{reads_on}
use Rattle.alter_session.specs.declared.open_error.OpenError.TheVariants.{Refused}
use Rattle.alter_session.proofs.Causes.{unfailed}
use Rattle.alter_session.proofs.Fronts.{openable, front_refused, front_shape, front_whole}
use Rattle.alter_session.proofs.opening.read_shape.Goals as goal

pub returns-in-Ok-shape-clause-shaped : goal.returns-in-Ok-shape-clause-shaped
returns-in-Ok-shape-clause-shaped g c = λ f told.
    let long = c.in-Ok.ensures.len f told in
    let front = front_whole f.db c.read_front.new.buf c.read_front.new.buf c.in-Ok.len long c.read_front.ensures.extent (c.in-Ok-read_front.ensures.read f (c.db_len.ensures.reads.only.files ∙ told)) in
    front_shape f.db _ c.in-Ok.len _ long front c.in-Ok-shape.ensures.accepted c.in-Ok-shape.ensures.shape

pub returns-in-Ok-shape-clause-reads : goal.returns-in-Ok-shape-clause-reads
returns-in-Ok-shape-clause-reads g c = reads_on g.D.Disk _ _ _ c.db_len.ensures.reads c.read_front.ensures.reads

pub returns-in-Err-clause-refused : goal.returns-in-Err-clause-refused
returns-in-Err-clause-refused g c = λ f told.
    let long = c.in-Ok.ensures.len f told in
    let front = front_whole f.db c.read_front.new.buf c.read_front.new.buf c.in-Ok.len long c.read_front.ensures.extent (c.in-Ok-read_front.ensures.read f (c.db_len.ensures.reads.only.files ∙ told)) in
    front_refused f.db _ c.in-Ok.len _ long front c.in-Err.ensures.refused

pub returns-in-Err-clause-reads : goal.returns-in-Err-clause-reads
returns-in-Err-clause-reads g c = reads_on g.D.Disk _ _ _ c.db_len.ensures.reads c.read_front.ensures.reads

pub returns-in-Ok-shape-clause-sound : goal.returns-in-Ok-shape-clause-sound
returns-in-Ok-shape-clause-sound g c = openable _ _ _ c.in-Ok-shape.ensures.accepted c.in-Ok-shape.ensures.shape c.in-Ok-shape.ensures.sound

pub returns-in-Ok-shape-clause-cause : goal.returns-in-Ok-shape-clause-cause
returns-in-Ok-shape-clause-cause g c =
    unfailed g.D.Disk c.args.disk.now c.read_front.new.disk (Ok c.in-Ok-shape.shape) (λ way is. cc)
    (c.in-Ok-read_front.ensures.cause.only ∙ c.in-Ok.ensures.cause.only) (c.read_front.ensures.reads.only.writes_stay ∙ c.db_len.ensures.reads.only.writes_stay)

pub returns-in-Err-clause-cause : goal.returns-in-Err-clause-cause
returns-in-Err-clause-cause g c =
    unfailed g.D.Disk c.args.disk.now c.read_front.new.disk (Err (Refused c.in-Err.refusal)) (λ way is. cc)
    (c.in-Ok-read_front.ensures.cause.only ∙ c.in-Ok.ensures.cause.only) (c.read_front.ensures.reads.only.writes_stay ∙ c.db_len.ensures.reads.only.writes_stay)
