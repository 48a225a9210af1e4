-- What many rules read: words in a row, parentheses, lists with commas.
use Rattle.std.specs.Prelude.{None, Option, Some}
use Rattle.sql_token.specs.declared.keyword.Keyword.{Keyword}
use Rattle.sql_token.specs.declared.token.Token.{Token}
use Rattle.sql_expr.specs.declared.lists.After.{After}
use Rattle.sql_expr.specs.declared.lists.By.{By}
use Rattle.sql_expr.specs.declared.lists.Commas.{Commas}
use Rattle.sql_expr.specs.declared.lists.InParens.{InParens}
use Rattle.sql_expr.specs.declared.lists.NextItem.{NextItem}
use Rattle.sql_expr.specs.declared.lists.TokenPair.{TokenPair}
use Rattle.sql_reader.specs.Looks.{Set, sign, word}
use Rattle.sql_reader.specs.Reading.{Read, Reading, begun, choice, formed, lead, leaf, many, opt, sealed, seq}
use Rattle.sql_reader.specs.declared.sort.Mark.TheVariants.{Closing, Comma, Opening}
use Rattle.sql_reader.specs.declared.sort.Sort.{Sort}
use Rattle.sql_token.specs.declared.keyword.Keyword.TheVariants as K

-- two tokens
abbrev pub pair : {sort : Token → Sort} → Set → Set → Reading sort TokenPair
pair first second = formed (λ v. record { first = v.0; second = v.1 }) (lead first (leaf second))

-- WORD part
abbrev pub after : {sort : Token → Sort} {A : Type 0} → Keyword → Reading sort A → Reading sort (After A)
after keyword part = formed (λ v. record { word = v.0; part = v.1 }) (begun (word keyword) part)

-- "(" inner ")"
abbrev pub in_parens : {sort : Token → Sort} {A : Type 0} → Reading sort A → Reading sort (InParens A)
in_parens inner =
    formed (λ v. record { opening = v.0.0; inner = v.0.1; closing = v.1 }) (seq (lead (sign Opening) inner) (leaf (sign Closing)))

-- "," item
abbrev pub next_item : {sort : Token → Sort} {A : Type 0} → Reading sort A → Reading sort (NextItem A)
next_item item = formed (λ v. record { comma = v.0; item = v.1 }) (begun (sign Comma) item)

-- item {"," item}
abbrev pub commas : {sort : Token → Sort} {A : Type 0} → Reading sort A → Reading sort (Commas A)
commas item = formed (λ v. record { first = v.0; more = v.1 }) (seq item (many (next_item item)))

-- WORD BY items
abbrev pub by : {sort : Token → Sort} {A : Type 0} → Keyword → Reading sort (Commas A) → Reading sort (By A)
by keyword items =
    formed (λ v. record { word = v.0; by = v.1.0; items = v.1.1 }) (begun (word keyword) (begun (word K.By) items))

-- a token of the set, or none
abbrev opt_leaf_form : (sort : Token → Sort) → Set → Reading sort (Option Token)
opt_leaf_form sort set = opt (leaf set)

unfoldable pub read_opt_leaf : (Token → Sort) → Set → Read (Option Token)
read_opt_leaf sort set = (opt_leaf_form sort set).read

abbrev pub opt_leaf : (sort : Token → Sort) → Set → Reading sort (Option Token)
opt_leaf sort set = sealed (opt_leaf_form sort set) (read_opt_leaf sort set)

-- [NOT] and a token of the set
abbrev maybe_not_form : (sort : Token → Sort) → Set → Reading sort (Option Token × Token)
maybe_not_form sort set = choice (formed (λ v. (Some v.0, v.1)) (lead (word K.Not) (leaf set))) (formed (λ t. (None, t)) (leaf set))

unfoldable pub read_maybe_not : (Token → Sort) → Set → Read (Option Token × Token)
read_maybe_not sort set = (maybe_not_form sort set).read

abbrev pub maybe_not : (sort : Token → Sort) → Set → Reading sort (Option Token × Token)
maybe_not sort set = sealed (maybe_not_form sort set) (read_maybe_not sort set)
