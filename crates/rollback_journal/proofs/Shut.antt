-- What a database and its journal stand for while one of them changes: pages that the journal makes up for, or the magic.
use Rattle.std.proofs.Common.{◌≡◌, ◌⊎◌, inl, inr, ⊎_elim, ℕ, ◌≤◌, ◌-◌, Bool, true, false, List, ◌++◌, length, take, drop, nat_eq, nat_lt, Option, Some, None, if◌then◌else◌, ◌&&◌, refl, sym, ap, ap₂, ◌∙◌, arith}
use Rattle.std.proofs.lemmas.Bool.{cases_Bool, and_parts, ltb-false}
use Rattle.std.proofs.lemmas.List.{take-take, take-append-drop}
use Rattle.std.proofs.lemmas.Option.{same_Some}
use Rattle.std.specs.Cmp.Lexicographic.{pointwise, bytes_decides}
use Rattle.common_laws.proofs.Options.{chosen}
use Rattle.alter_disk.specs.Files.{Files}
use Rattle.alter_disk.specs.Changes.{Torn}
use Rattle.rollback_journal.specs.declared.header.Header.{Header}
use Rattle.rollback_journal.specs.declared.heat.Heat.TheVariants.{Cold, Hot, Super as NamesSuper}
use Rattle.rollback_journal.specs.Header.{magic, has_magic, header_of, is_allowed, fields_of}
use Rattle.rollback_journal.specs.Heat.{heat_of, heat_with, has_records, live_header, names_super}
use Rattle.rollback_journal.specs.Records.{entries_of}
use Rattle.rollback_journal.specs.declared.fault.RecoverFault.{RecoverFault}
use Rattle.rollback_journal.specs.declared.fault.RecoverFault.TheVariants.{Memory, Failed, Super, Short, TooLarge}
use Rattle.rollback_journal.specs.Recovery.{IsPlayable, IsFree, IsRefusal}
use Rattle.rollback_journal.specs.Playback.{played, first_missing, KeepsUnjournaled}
use Rattle.rollback_journal.specs.Standing.{Stands, IsShort, IsTooLarge, standing, standing_by, standing_hot, is_too_large}
use Rattle.rollback_journal.proofs.Unjournaled.{played_kept}

-- a journal that does not begin with the magic is cold
pub cold_without_magic : (journal : List ℕ) → has_magic journal ≡ false → heat_of journal ≡ Cold
cold_without_magic journal none = by (nat_lt (length journal) 28) refl
  where
    front : has_magic (take 28 journal) ≡ false
    front = ap (λ l. pointwise nat_eq l magic) (take-take 8 28 journal (omega arith)) ∙ none

    by : (short : Bool) → nat_lt (length journal) 28 ≡ short → heat_of journal ≡ Cold
    by true is = rw is refl
    by false is = rw (is, front) refl

-- what is known of a hot journal: its length, its first bytes and its header
pub record IsHot (journal : List ℕ) (h : Header) : Type 0 where
  pub long : 28 ≤ length journal
  pub begins : take 8 journal ≡ magic
  pub records : has_records (length journal) h ≡ true
  pub allowed : is_allowed h ≡ true
  pub fields : fields_of (take 28 journal) ≡ h

hot_header : (o : Option Header) (named : Bool) (h : Header) → heat_with o named ≡ Hot h → o ≡ Some h
hot_header None named h e = absurd (not_cold h e)
  where
    not_cold : (h : Header) → Cold ≡ Hot h → ⊥
    not_cold h e = cc
hot_header (Some g) true h e = absurd (not_super h e)
  where
    not_super : (h : Header) → NamesSuper ≡ Hot h → ⊥
    not_super h e = cc
hot_header (Some g) false h e = cc

live_parts : (len : ℕ) (front : List ℕ) (h : Header) → live_header len front ≡ Some h → (nat_lt len 28 ≡ false) × (header_of front ≡ Some h) × (has_records len h ≡ true)
live_parts len front h is = by (nat_lt len 28) (header_of front) is
  where
    by : (short : Bool) (o : Option Header) → ◌≡◌ {A = Option Header} (if short then None else elim o [ None ↦ None | Some g ↦ if has_records len g then Some g else None ]) (Some h)
        → (short ≡ false) × (o ≡ Some h) × (has_records len h ≡ true)
    by true o e = absurd (cc)
    by false None e = absurd (cc)
    by false (Some g) e =
        let (records, same) = chosen (has_records len g) (Some g) h e in
        (refl, same, ap (has_records len) (sym (same_Some g h same)) ∙ records)

-- a header that is read has allowed sizes, and its bytes begin with the magic
pub header_parts : (front : List ℕ) (h : Header) → header_of front ≡ Some h → (has_magic front ≡ true) × (is_allowed h ≡ true) × (fields_of front ≡ h)
header_parts front h header =
    let (passed, same) = chosen (has_magic front && is_allowed (fields_of front)) (Some (fields_of front)) h header in
    let (begins, allowed) = and_parts (has_magic front) (is_allowed (fields_of front)) passed in
    let fields : fields_of front ≡ h = same_Some (fields_of front) h same in
    (begins, ap is_allowed (sym fields) ∙ allowed, fields)

pub hot_parts : (journal : List ℕ) (h : Header) → heat_of journal ≡ Hot h → IsHot journal h
hot_parts journal h hot =
    let front : List ℕ = take 28 journal in
    let (long, header, records) = live_parts (length journal) front h (hot_header _ (names_super (length journal) (drop (length journal - 8) journal)) h hot) in
    let (begins, allowed, fields) = header_parts front h header in
    record {
      long = ltb-false (length journal) 28 long;
      begins = sym (take-take 8 28 journal (omega arith)) ∙ (bytes_decides (take 8 front) magic).0 begins;
      records = records;
      allowed = allowed;
      fields = fields;
    }

-- a hot journal that is played stands for what playback leaves
pub stands_played : (f : Files) (h : Header) → IsPlayable f h → standing f ≡ Stands (played h.page h.size (entries_of f.journal h) f.db)
stands_played f h playable =
    let after : List ℕ = played h.page h.size (entries_of f.journal h) f.db in
    ap (λ heat. standing_by heat f) playable.hot
    ∙ ap (λ (large : Bool). elim large [ true ↦ IsTooLarge | false ↦ standing_hot f h ]) playable.within
    ∙ ap (λ (missing : Option ℕ). elim missing [ Some page ↦ IsShort page | None ↦ Stands after ]) playable.complete

-- a hot journal past the limits, and one that lacks a page
pub stands_large : (f : Files) (h : Header) (len : ℕ) → heat_of f.journal ≡ Hot h → len ≡ length f.journal → true ≡ is_too_large len h → standing f ≡ IsTooLarge
stands_large f h len hot long large =
    ap (λ heat. standing_by heat f) hot ∙ ap (λ (large : Bool). elim large [ true ↦ IsTooLarge | false ↦ standing_hot f h ]) (ap (λ n. is_too_large n h) (sym long) ∙ sym large)

pub stands_short : (f : Files) (h : Header) (len n : ℕ) → heat_of f.journal ≡ Hot h → len ≡ length f.journal → false ≡ is_too_large len h
    → Some n ≡ first_missing h.page h.size (entries_of f.journal h) f.db → standing f ≡ IsShort n
stands_short f h len n hot long within short =
    let after : List ℕ = played h.page h.size (entries_of f.journal h) f.db in
    ap (λ heat. standing_by heat f) hot
    ∙ ap (λ (large : Bool). elim large [ true ↦ IsTooLarge | false ↦ standing_hot f h ]) (ap (λ n. is_too_large n h) (sym long) ∙ sym within)
    ∙ ap (λ (missing : Option ℕ). elim missing [ Some page ↦ IsShort page | None ↦ Stands after ]) (sym short)

-- the same, where a crash left the journal, and of the database what has no entry
pub stands_kept : (f c : Files) (h : Header) → IsPlayable f h → c.journal ≡ f.journal → KeepsUnjournaled h.page h.size (entries_of f.journal h) f.db c.db
    → standing c ≡ standing f
stands_kept f c h playable same keeps =
    let (complete, same_bytes) = played_kept h.page h.size (entries_of f.journal h) f.db c.db keeps playable.complete in
    let again : IsPlayable c h = record {
      hot = ap heat_of same ∙ playable.hot;
      within = ap (λ j. is_too_large (length j) h) same ∙ playable.within;
      complete = ap (λ j. first_missing h.page h.size (entries_of j h) c.db) same ∙ complete;
    } in
    stands_played c h again ∙ ap (λ j. Stands (played h.page h.size (entries_of j h) c.db)) same ∙ ap Stands same_bytes ∙ sym (stands_played f h playable)

-- a database beside a cold journal stands for itself
pub stands_cold : (f : Files) → heat_of f.journal ≡ Cold → standing f ≡ Stands f.db
stands_cold f cold = ap (λ heat. standing_by heat f) cold

-- a journal whose first eight bytes are torn is as it was, or cold
pub torn_magic : (old new : List ℕ) (h : Header) → heat_of old ≡ Hot h → Torn 0 8 old new → (new ≡ old) ⊎ (heat_of new ≡ Cold)
torn_magic old new h hot torn = ⊎_elim (λ opened. inl (whole opened)) (λ shut. inr (cold_without_magic new shut)) (cases_Bool (has_magic new))
  where
    whole : has_magic new ≡ true → new ≡ old
    whole opened =
        sym (take-append-drop 8 new) ∙ ap₂ (λ (a b : List ℕ). a ++ b) ((bytes_decides (take 8 new) magic).0 opened ∙ sym (hot_parts old h hot).begins) torn.behind ∙ take-append-drop 8 old

-- what is free refuses nothing
pub free_refusal : (f : Files) (e : RecoverFault) → IsFree e → IsRefusal f e
free_refusal f (Memory e) free = tt
free_refusal f (Failed way) free = tt
free_refusal f Super free = absurd free
free_refusal f (Short n) free = absurd free
free_refusal f TooLarge free = absurd free
