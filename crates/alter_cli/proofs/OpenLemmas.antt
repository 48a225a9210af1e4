-- The opening of the call's file.
use Rattle.std.proofs.Common.{◌≡◌, ◌≤◌, ℕ, ◌⊎◌, inl, inr, ⊎_elim, true, Option, Some, None, is_some, IsSomeAnd, Err, refl, sym, ◌∙◌, ap, arith}
use Rattle.alter_disk.specs.declared.disk.Disk.{Ghosts}
use Rattle.alter_disk.specs.declared.way.Way.TheVariants.{Read, Write}
use Rattle.alter_disk.specs.Changes.{IfTold}
use Rattle.alter_disk.specs.Crash.{Elapses, NoMore}
use Rattle.alter_disk.specs.Files.{Files}
use Rattle.alter_disk.specs.Moments.{AtRest, Leaves}
use Rattle.alter_disk.specs.Uses.{ReadFailed, WriteFailed}
use Rattle.rollback_journal.specs.Recovery.{recovered}
use Rattle.rollback_journal.specs.Standing.{standing}
use Rattle.plain_schema.specs.Image.{Image}
use Rattle.alter_session.specs.declared.open_error.OpenError.{OpenError}
use Rattle.alter_session.specs.declared.open_error.OpenError.TheVariants as errors
use Rattle.alter_session.specs.declared.session.Session.{Session}
use Rattle.alter_session.specs.Opening.{HasOpenCauses, IsOpenedFrom, IsUnopened, KeepsBytes, Nothing}
use Rattle.alter_session.specs.Serves.{Refuses, Serves}
use Rattle.alter_session.specs.Session.{Holds, disk_of}
use Rattle.alter_cli.specs.declared.file_code.FileCode.{FileCode}
use Rattle.alter_cli.specs.declared.file_code.FileCode.TheVariants.{SuperJournal, JournalTooLarge, ShortJournal, Database, Unbuilt}
use Rattle.alter_cli.specs.First.{error_of, first_rules}
use Rattle.alter_cli.specs.Left.{Each, EachCrash, left_on}
use Rattle.alter_cli.specs.Opened.{OpensQuietly}
use Rattle.alter_cli.specs.Outcome.{IsAsBefore}
use Rattle.alter_cli.specs.StopOf.{stop_of_error}
use Rattle.alter_cli.specs.Stops.{IsLeftAlike, IsRefusedSo, NoSession, OpensOf}
use Rattle.alter_disk.proofs.Moments.{goes_far, weaker}
use Rattle.alter_cli.proofs.FinishLemmas.{rose_before}

-- a fact of whatever is told
pub if_told : (told : Option Files) (P : Files → Type 0) → ((f : Files) → told ≡ Some f → P f) → IfTold told P
if_told None P is = tt
if_told (Some f) P is = is f refl

-- a told value has a fact that holds where it is told
pub told_has : (told : Option Files) (P : Files → Type 0) → is_some told ≡ true → IfTold told P → IsSomeAnd told P
told_has None P some is = absurd cc
told_has (Some f) P some is = is

-- files that are refused with a code open to no image that is served
pub refused_unserved : (f : Files) (code : FileCode) → Refuses f (error_of code) → (image : Image) → Serves f image → ⊥
refused_unserved f SuperJournal is image serves = let e = sym is ∙ serves.stood in cc
refused_unserved f JournalTooLarge is image serves = let e = sym is ∙ serves.stood in cc
refused_unserved f (ShortJournal page) is image serves = let e = sym is ∙ serves.stood in cc
refused_unserved f (Database refusal) is image serves =
    let e = sym is.stood ∙ serves.stood in let a = is.refused in let b = serves.accepted in cc
refused_unserved f Unbuilt is image serves = is.unserved image serves

module _ {D : Type 0} (disk : Ghosts D) where
  -- files that rest are read, and left by a crash, as they are
  pub rest_each : (f : Files) (d : D) → is_some (disk.files d) ≡ true → AtRest disk f d → Each (left_on disk d) (λ c. c ≡ f)
  rest_each f d told is = record {
    read = told_has (disk.files d) (λ c. c ≡ f) told (both (disk.files d) is.db.reads is.journal.reads);
    crash = λ c left. pair c (is.db.crash c left) (is.journal.crash c left);
  }
    where
      pair : (c : Files) → c.db ≡ f.db → c.journal ≡ f.journal → c ≡ f
      pair c db journal =
          ap (λ (b : _). record { db = b; journal = c.journal }) db ∙ ap (λ (j : _). record { db = f.db; journal = j }) journal

      both : (told : Option Files) → IfTold told (λ c. c.db ≡ f.db) → IfTold told (λ c. c.journal ≡ f.journal) → IfTold told (λ c. c ≡ f)
      both None db journal = tt
      both (Some c) db journal = pair c db journal

  -- files that are refused with a code, and rest recovered
  refused_so : (f : Files) (code : FileCode) (new : D) → is_some (disk.files new) ≡ true → Refuses f (error_of code) → AtRest disk (recovered f) new
      → IsRefusedSo first_rules f code (left_on disk new)
  refused_so f code new told is rests = record {
    refused = is;
    rests = rest_each (recovered f) new told rests;
    unserved = refused_unserved f code is;
  }

  -- the session's files have an image that is served
  pub opened_told : (told opened : Option Files) (session : Session D) → opened ≡ told → ((f : Files) → opened ≡ Some f → IsOpenedFrom disk f session)
      → IfTold told (OpensOf first_rules (λ image. Holds disk image session))
  opened_told told opened session same is =
      if_told told (OpensOf first_rules (λ image. Holds disk image session))
      (λ f at. let o = is f (same ∙ at) in record { image = o.image; serves = o.serves; of = o.holds })

  -- the session's files are those that a recovery leaves
  pub rests_told : (told : Option Files) (opened : Option Files) (session : Session D) → opened ≡ told → is_some (disk.files (disk_of session)) ≡ is_some told
      → ((f : Files) → opened ≡ Some f → IsOpenedFrom disk f session) → IfTold told (λ f. Each (left_on disk (disk_of session)) (λ c. c ≡ recovered f))
  rests_told told opened session same telling is =
      if_told told (λ f. Each (left_on disk (disk_of session)) (λ c. c ≡ recovered f))
      (λ f at. rest_each (recovered f) (disk_of session) (telling ∙ ap is_some at) (is f (same ∙ at)).rests)

  -- the opening of the disk keeps every byte
  pub keeps_first : (old mid : D) → OpensQuietly disk old mid → IfTold (disk.files old) (λ f. recovered f ≡ f → KeepsBytes disk f old mid)
  keeps_first old mid opens =
      if_told (disk.files old) (λ f. recovered f ≡ f → KeepsBytes disk f old mid)
      (λ f told cold. record { read = opens.only.files ∙ told; stops = weaker disk old mid Nothing (λ c. c ≡ f) (λ c none. absurd none) opens.stops })

  -- and so do calls behind it that keep every byte
  pub keeps_open : (old mid new : D) → OpensQuietly disk old mid → ((f : Files) → disk.files mid ≡ Some f → recovered f ≡ f → KeepsBytes disk f mid new)
      → IfTold (disk.files old) (λ f. recovered f ≡ f → KeepsBytes disk f old new)
  keeps_open old mid new opens then_ =
      if_told (disk.files old) (λ f. recovered f ≡ f → KeepsBytes disk f old new)
      (λ f told cold. let kept = then_ f (opens.only.files ∙ told) cold in record {
        read = kept.read;
        stops = goes_far disk old mid new (λ c. c ≡ f) (weaker disk old mid Nothing (λ c. c ≡ f) (λ c none. absurd none) opens.stops) kept.stops;
      })

  module _ (counts_now : (d : D) (t : ℕ) (c : Files) → t ≤ disk.moment d → disk.may_leave d c → disk.left_since d t c)
      (only_now : (d : D) (c : Files) → disk.left_since d (disk.moment d) c → disk.may_leave d c) where
    -- what a crash may leave now it could have left before some calls, or it has what these leave
    pub crash_since : (old new : D) (P : Files → Type 0) → Leaves disk old new P → (c : Files) → disk.may_leave new c → disk.may_leave old c ⊎ P c
    crash_since old new P run c now =
        ⊎_elim (λ before. inl (only_now old c before)) inr (run.before (disk.moment old) c (omega arith) (counts_now new (disk.moment old) c run.later now))

    -- at each moment of a call that lets a crash leave no more, a crash left what it could have left before
    pub leaves_none : (old new : D) → Elapses (disk.moment old) (disk.moment new) (disk.left_since old) (disk.left_since new) (disk.may_leave new)
        → NoMore (disk.may_leave old) (disk.may_leave new) → Leaves disk old new Nothing
    leaves_none old new time crash = record {
      later = time.later;
      before = λ t c le left. inl (⊎_elim (λ past. past) (λ now. counts_now old t c le (crash c now)) (time.nothing_else t c le left));
    }

    -- the opening of the disk, and then calls that leave files which stand for the same
    pub stops_open : (old mid new : D) → OpensQuietly disk old mid → ((f : Files) → disk.files mid ≡ Some f → Leaves disk mid new (λ c. standing c ≡ standing f))
        → IfTold (disk.files old) (λ f. Leaves disk old new (λ c. standing c ≡ standing f))
    stops_open old mid new opens run =
        if_told (disk.files old) (λ f. Leaves disk old new (λ c. standing c ≡ standing f))
        (λ f told. goes_far disk old mid new (λ c. standing c ≡ standing f)
        (weaker disk old mid Nothing (λ c. standing c ≡ standing f) (λ c none. absurd none) opens.stops) (run f (opens.only.files ∙ told)))

    -- the opening of the disk alone
    pub stops_first : (old new : D) → OpensQuietly disk old new → IfTold (disk.files old) (λ f. Leaves disk old new (λ c. standing c ≡ standing f))
    stops_first old new opens =
        if_told (disk.files old) (λ f. Leaves disk old new (λ c. standing c ≡ standing f))
        (λ f told. weaker disk old new Nothing (λ c. standing c ≡ standing f) (λ c none. absurd none) opens.stops)

    -- a crash leaves the files as before, and they read so where nothing is recovered
    pub left_alike : (old new : D) → IfTold (disk.files old) (λ f. Leaves disk old new (λ c. standing c ≡ standing f))
        → IfTold (disk.files old) (λ f. recovered f ≡ f → disk.files new ≡ Some f)
        → IsLeftAlike first_rules (left_on disk old) (left_on disk new)
    left_alike old new run cold = at (disk.files old) run cold
      where
        at : (told : Option Files) → IfTold told (λ f. Leaves disk old new (λ c. standing c ≡ standing f)) → IfTold told (λ f. recovered f ≡ f → disk.files new ≡ Some f)
            → IfTold told (λ f. EachCrash (left_on disk new) (IsAsBefore first_rules f (disk.may_leave old)) × (recovered f ≡ f → disk.files new ≡ Some f))
        at None run cold = tt
        at (Some f) run cold = ((λ c now. crash_since old new (λ c. standing c ≡ standing f) run c now), cold)

    -- why there is no session behind an opened disk
    pub no_session_for : (old mid new : D) (cause : OpenError) → OpensQuietly disk old mid → is_some (disk.files new) ≡ is_some (disk.files mid)
        → ((f : Files) → disk.files mid ≡ Some f → IsUnopened disk f cause new)
        → ((f : Files) → disk.files mid ≡ Some f → Leaves disk mid new (λ c. standing c ≡ standing f)) → HasOpenCauses {T = Session D} disk mid new (Err cause)
        → ((f : Files) → disk.files mid ≡ Some f → recovered f ≡ f → KeepsBytes disk f mid new)
        → NoSession first_rules (ReadFailed disk old new) (WriteFailed disk old new) (left_on disk old) (left_on disk new) (stop_of_error cause)
    no_session_for old mid new cause opens telling un run why kept = at cause un why
      where
        alike : IsLeftAlike first_rules (left_on disk old) (left_on disk new)
        alike =
            left_alike old new (stops_open old mid new opens run)
            (if_told (disk.files old) (λ f. recovered f ≡ f → disk.files new ≡ Some f) (λ f told cold. (kept f (opens.only.files ∙ told) cold).read))

        told_new : (f : Files) → disk.files old ≡ Some f → is_some (disk.files new) ≡ true
        told_new f told = telling ∙ ap is_some (opens.only.files ∙ told)

        refused : (code : FileCode) → ((f : Files) → disk.files mid ≡ Some f → Refuses f (error_of code) × AtRest disk (recovered f) new)
            → IfTold (disk.files old) (λ f. IsRefusedSo first_rules f code (left_on disk new))
        refused code is =
            if_told (disk.files old) (λ f. IsRefusedSo first_rules f code (left_on disk new))
            (λ f told. let both = is f (opens.only.files ∙ told) in refused_so f code new (told_new f told) both.0 both.1)

        at : (cause : OpenError) → ((f : Files) → disk.files mid ≡ Some f → IsUnopened disk f cause new) → HasOpenCauses {T = Session D} disk mid new (Err cause)
            → NoSession first_rules (ReadFailed disk old new) (WriteFailed disk old new) (left_on disk old) (left_on disk new) (stop_of_error cause)
        at (errors.Memory fault) un why = alike
        at (errors.Failed Read) un why = (rose_before (disk.read_faults old) (disk.read_faults mid) (disk.read_faults new) opens.only.later (why.reading.failed refl), alike)
        at (errors.Failed Write) un why =
            (rose_before (disk.write_faults old) (disk.write_faults mid) (disk.write_faults new) (omega (arith, opens.only.writes_stay)) (why.writing.failed refl), alike)
        at errors.Super un why = refused SuperJournal un
        at (errors.Short page) un why = refused (ShortJournal page) un
        at errors.Journal un why = refused JournalTooLarge un
        at (errors.Refused refusal) un why = refused (Database refusal) un
        at errors.Unbuilt un why = refused Unbuilt un
