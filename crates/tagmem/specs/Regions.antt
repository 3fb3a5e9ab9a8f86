-- What the regions of a `Directory` say. All of it is this profile's own.
use Rattle.std.specs.{Prelude.{ℕ, ◌/◌, ◌%◌, Bool, ◌&&◌, eqb, List, map}, List.list_any}
use Rattle.tagmem.specs.{declared.region.Region.Region, Pages.has_page, Orders.linked}

-- the numbers of regions
abbrev pub numbers_of : List Region → List ℕ
numbers_of regions = map (λ region. region.number) regions

-- and their links
abbrev pub children_of : List Region → List (List ℕ)
children_of regions = map (λ region. region.children) regions

-- all links, those of the roots too
abbrev pub links_of : List ℕ → List Region → ℕ → ℕ → ℕ
links_of roots regions = linked roots (children_of regions)

-- a region has the page with a number: region n has the pages from 64 * n on
abbrev pub has_number : ℕ → Region → Bool
has_number page region = eqb region.number (page / 64) && has_page region.there (page % 64)

-- some region has it
abbrev pub is_there : List Region → ℕ → Bool
is_there regions page = list_any (has_number page) regions
