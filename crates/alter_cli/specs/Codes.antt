-- The lines of files that are refused.
use Rattle.std.specs.Prelude.{ℕ, Option, Some, None, List, [], ◌∷◌, ◌++◌, codes}
use Rattle.std.specs.Fmt.{decimal}
use Rattle.pager_core.specs.declared.refusal.FileRefusal.{FileRefusal}
use Rattle.pager_core.specs.declared.refusal.FileRefusal.TheVariants as refusals
use Rattle.alter_cli.specs.declared.file_code.FileCode.{FileCode}
use Rattle.alter_cli.specs.declared.file_code.FileCode.TheVariants.{SuperJournal, JournalTooLarge, ShortJournal, Database, Unbuilt}

-- what the line of a refusal by the database's bytes begins with
abbrev pub refusal_text : FileRefusal → List ℕ
refusal_text refusals.Empty = codes "file empty"
refusal_text refusals.NotDatabase = codes "file not-database"
refusal_text refusals.PageSize = codes "file page-size"
refusal_text refusals.Wal = codes "file wal"
refusal_text refusals.AutoVacuum = codes "file auto-vacuum"
refusal_text refusals.Encoding = codes "file encoding"
refusal_text refusals.SchemaFormat = codes "file schema-format"
refusal_text refusals.Size = codes "file size"
refusal_text refusals.TooLarge = codes "file too-large"
refusal_text (refusals.Corrupt page) = codes "file corrupt"

-- what the line of a code begins with
abbrev pub code_text : FileCode → List ℕ
code_text SuperJournal = codes "file super-journal"
code_text JournalTooLarge = codes "file journal-too-large"
code_text (ShortJournal page) = codes "file short-journal"
code_text (Database refusal) = refusal_text refusal
code_text Unbuilt = codes "file unbuilt"

-- the page that a refusal by the database's bytes is about
abbrev pub refusal_page : FileRefusal → Option ℕ
refusal_page (refusals.Corrupt page) = Some page
refusal_page refusal = None

-- the page that a code is about
abbrev pub code_page : FileCode → Option ℕ
code_page (ShortJournal page) = Some page
code_page (Database refusal) = refusal_page refusal
code_page code = None

-- a blank and the number of a page, where there is one, and a line feed
abbrev pub page_end : Option ℕ → List ℕ
page_end (Some page) = 32 ∷ decimal page ++ 10 ∷ []
page_end None = 10 ∷ []

-- the line of a file that is refused
abbrev pub file_line : FileCode → List ℕ
file_line code = code_text code ++ page_end (code_page code)
