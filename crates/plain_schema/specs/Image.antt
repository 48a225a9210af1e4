-- A database file as its pages (fileformat2.html, "Pages").
use Rattle.std.specs.Prelude.{ℕ, List}

-- a page is its bytes
abbrev pub Page : Type 0
Page = List ℕ

-- an image is its pages, page 1 first
abbrev pub Image : Type 0
Image = List Page
