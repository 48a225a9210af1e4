-- Two files at rest, and what a recovery leaves of them.
use Rattle.std.proofs.Common.{◌≡◌, inl, inr, Bool, true, false, if◌then◌else◌, List, ℕ, Option, Some, None, is_some, IfSome, Err, refl, sym, ap, ap₂, ◌∙◌, subst}
use Rattle.alter_disk.specs.declared.disk.Disk.{Ghosts}
use Rattle.alter_disk.specs.Files.{Files}
use Rattle.alter_disk.specs.Moments.{AtRest, Leaves, ReadsQuietly}
use Rattle.alter_disk.proofs.Moments.{goes_far, weaker}
use Rattle.rollback_journal.specs.declared.heat.Heat.{Heat}
use Rattle.rollback_journal.specs.declared.heat.Heat.TheVariants.{Cold, Hot, Super as NamesSuper}
use Rattle.rollback_journal.specs.declared.fault.RecoverFault.{RecoverFault}
use Rattle.rollback_journal.specs.declared.fault.RecoverFault.TheVariants as recoveries
use Rattle.rollback_journal.specs.Heat.{heat_of}
use Rattle.rollback_journal.specs.Recovery.{IsRefusal, Recovered, Unwritten, is_hot, recovered, recovered_as, shut}
use Rattle.rollback_journal.specs.Standing.{Standing, Stands, IsSuper, IsShort, IsTooLarge, standing, standing_by}
use Rattle.rollback_journal.proofs.Closing.{cold_shut, rests_stay, rest_stops}
use Rattle.rollback_journal.proofs.Shut.{stands_cold}
use Rattle.alter_session.specs.declared.open_error.OpenError.{OpenError}
use Rattle.alter_session.specs.declared.open_error.OpenError.TheVariants.{Memory, Failed, Super, Short, Journal, Refused, Unbuilt}
use Rattle.alter_session.specs.Opening.{IsUnopened, IsUnshaped, KeepsBytes, Nothing, error_of_recovery}

-- the journal that a recovery leaves is cold
left_cold : (f : Files) (bytes : List ℕ) → standing f ≡ Stands bytes → heat_of (if is_hot (heat_of f.journal) then shut f.journal else f.journal) ≡ Cold
left_cold f bytes is = by (heat_of f.journal) refl is
  where
    by : (heat : Heat) → heat_of f.journal ≡ heat → standing_by heat f ≡ Stands bytes → heat_of (if is_hot heat then shut f.journal else f.journal) ≡ Cold
    by Cold e s = e
    by NamesSuper e s = absurd (cc)
    by (Hot h) e s = cold_shut f.journal

-- what a recovery leaves stands for the same
pub recovered_alike : (f : Files) → standing (recovered f) ≡ standing f
recovered_alike f = by (standing f) refl
  where
    by : (s : Standing) → standing f ≡ s → standing (recovered_as s f) ≡ s
    by (Stands bytes) e = stands_cold (recovered_as (Stands bytes) f) (left_cold f bytes e)
    by IsSuper e = e
    by IsTooLarge e = e
    by (IsShort page) e = e

-- and its journal is cold, where it stands for bytes
pub recovered_cold : (f : Files) (bytes : List ℕ) → standing f ≡ Stands bytes → heat_of (recovered f).journal ≡ Cold
recovered_cold f bytes is = ap (λ s. heat_of (recovered_as s f).journal) is ∙ left_cold f bytes is

pub recovered_bytes : (f : Files) (bytes : List ℕ) → standing f ≡ Stands bytes → (recovered f).db ≡ bytes
recovered_bytes f bytes is = ap (λ s. (recovered_as s f).db) is

module _ {D : Type 0} (disk : Ghosts D) where
  -- a crash leaves what is at rest
  pub rest_alike : (f : Files) (d : D) → AtRest disk f d → (c : Files) → disk.may_leave d c → c ≡ f
  rest_alike f d rests c may = ap₂ both (rests.db.crash c may) (rests.journal.crash c may)
    where
      both : List ℕ → List ℕ → Files
      both db journal = record { db = db; journal = journal }

  -- what is at rest is told, where something is
  pub told_rest : (f : Files) (d : D) → is_some (disk.files d) ≡ true → AtRest disk f d → disk.files d ≡ Some f
  told_rest f d some rests = by (disk.files d) refl
    where
      both : List ℕ → List ℕ → Files
      both db journal = record { db = db; journal = journal }

      by : (o : Option Files) → disk.files d ≡ o → disk.files d ≡ Some f
      by None e = absurd (no (sym some ∙ ap is_some e))
        where
          no : true ≡ false → ⊥
          no e = cc
      by (Some g) e =
          let db : g.db ≡ f.db = subst (λ o. IfSome o (λ (h : Files). h.db ≡ f.db)) e rests.db.reads in
          let journal : g.journal ≡ f.journal = subst (λ o. IfSome o (λ (h : Files). h.journal ≡ f.journal)) e rests.journal.reads in
          e ∙ ap Some (ap₂ both db journal)

  -- no crash at all, and then some
  pub behind_durable : (old mid new : D) (P : Files → Type 0) → Leaves disk old mid Nothing → Leaves disk mid new P → Leaves disk old new P
  behind_durable old mid new P first then_ = goes_far disk old mid new P (weaker disk old mid Nothing P (λ c none. absurd none) first) then_

  -- no crash at all keeps what is read
  pub keeps_durable : (f : Files) (old mid : D) → disk.files old ≡ Some f → disk.files mid ≡ disk.files old → Leaves disk old mid Nothing → KeepsBytes disk f old mid
  keeps_durable f old mid told same run = record { read = same ∙ told; stops = weaker disk old mid Nothing (λ c. c ≡ f) (λ c none. absurd none) run }

  -- and so do reading calls on what is at rest
  pub keeps_read : (f : Files) (old mid new : D) → KeepsBytes disk f old mid → AtRest disk f mid → ReadsQuietly disk mid new → KeepsBytes disk f old new
  keeps_read f old mid new kept rests quiet = record {
    read = quiet.only.files ∙ kept.read;
    stops = goes_far disk old mid new (λ c. c ≡ f) kept.stops (weaker disk mid new (disk.may_leave mid) (λ c. c ≡ f) (rest_alike f mid rests) quiet.stops);
  }

  -- what is left of files that are at rest as a recovery left them, which were only read then
  pub recovered_rests : (f : Files) (played : Bool) (d : D) → Recovered disk f played d → AtRest disk (recovered f) d
  recovered_rests f played d is =
      let bytes = is.bytes in
      let shut_as : Bool → Files = λ b. record { db = bytes; journal = if b then shut f.journal else f.journal } in
      let same : recovered f ≡ shut_as played = ap (λ s. recovered_as s f) is.stood ∙ ap shut_as is.hot in
      subst (λ g. AtRest disk g d) (sym same) is.rests

  -- a recovery that was refused
  pub unrecovered : (f : Files) (fault : RecoverFault) (mid new : D) → AtRest disk f mid → Unwritten disk mid new (Err fault) → IsRefusal f fault → IsUnopened disk f (error_of_recovery fault) new
  unrecovered f (recoveries.Memory fault) mid new rests quiet is = inl (rests_stay disk f mid new rests quiet)
  unrecovered f (recoveries.Failed way) mid new rests quiet is = tt
  unrecovered f recoveries.Super mid new rests quiet is = (is, subst (λ g. AtRest disk g new) (sym (ap (λ s. recovered_as s f) is)) (rests_stay disk f mid new rests quiet))
  unrecovered f (recoveries.Short page) mid new rests quiet is = (is, subst (λ g. AtRest disk g new) (sym (ap (λ s. recovered_as s f) is)) (rests_stay disk f mid new rests quiet))
  unrecovered f recoveries.TooLarge mid new rests quiet is = (is, subst (λ g. AtRest disk g new) (sym (ap (λ s. recovered_as s f) is)) (rests_stay disk f mid new rests quiet))

  -- a database that is refused once it is recovered
  pub unshaped : (f : Files) (bytes : List ℕ) (cause : OpenError) (d : D) → standing f ≡ Stands bytes → AtRest disk (recovered f) d → IsUnshaped bytes cause → IsUnopened disk f cause d
  unshaped f bytes (Memory fault) d stood rests is = inr rests
  unshaped f bytes (Failed way) d stood rests is = tt
  unshaped f bytes Super d stood rests is = absurd is
  unshaped f bytes (Short page) d stood rests is = absurd is
  unshaped f bytes Journal d stood rests is = absurd is
  unshaped f bytes (Refused refusal) d stood rests is = (record { bytes = bytes; stood = stood; refused = is }, rests)
  unshaped f bytes Unbuilt d stood rests is = absurd is

  -- reading calls on what a recovery left
  pub recovered_stops : (f : Files) (mid new : D) → AtRest disk (recovered f) mid → ReadsQuietly disk mid new → Leaves disk mid new (λ c. standing c ≡ standing f)
  recovered_stops f mid new rests quiet = weaker disk mid new _ (λ c. standing c ≡ standing f) (λ c same. same ∙ recovered_alike f) (rest_stops disk (recovered f) mid new rests quiet)

-- a database came back from its recovery
pub record CameBack {D : Type 0} (disk : Ghosts D) (f : Files) (d : D) : Type 0 where
  pub bytes : List ℕ
  pub stood : standing f ≡ Stands bytes
  pub rests : AtRest disk (recovered f) d
  pub told : disk.files d ≡ Some (recovered f)
  pub db : (recovered f).db ≡ bytes

pub came_back : {D : Type 0} (disk : Ghosts D) (f : Files) (played : Bool) (d : D) → is_some (disk.files d) ≡ true → Recovered disk f played d → CameBack disk f d
came_back disk f played d some is =
    let rests = recovered_rests disk f played d is in
    record { bytes = is.bytes; stood = is.stood; rests = rests; told = told_rest disk (recovered f) d some rests; db = recovered_bytes f is.bytes is.stood }
