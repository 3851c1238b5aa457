-- Elements of a side's RMBs: which there are, which is the lowest free one, and where they lie.
use Rattle.std.specs.Prelude.{ℕ, ◌+◌, ◌-◌, ◌*◌, ◌/◌, ◌%◌, ◌^◌, ◌==◌, ◌&&◌, not, Bool, List, map, flat_map, find, Option}
use Rattle.std.specs.List.{list_any}
use Rattle.smc_num.specs.Names.{up_to}

-- an element of a side: an RMB and an element in it, both from 1
-- RFC 7609, 4.2
pub record Place : Type 0 where
  pub rmb : ℕ
  pub index : ℕ

-- whether two places are the same
-- ours: a test of equality
abbrev pub same_place : Place → Place → Bool
same_place a b = (a.rmb == b.rmb) && (a.index == b.index)

-- so many elements of an RMB, the lowest first
-- RFC 7609, 4.2; the order is ours
abbrev pub places_in : ℕ → ℕ → List Place
places_in elements rmb = map (λ i. let place : Place = record { rmb = rmb; index = i } in place) (up_to elements)

-- all elements of a side with so many RMBs of so many elements, the lowest RMB first
-- RFC 7609, 4.2; the order is ours
abbrev pub all_places : ℕ → ℕ → List Place
all_places rmbs elements = flat_map (places_in elements) (up_to rmbs)

-- whether a place is not among those that are taken
-- ours: a look-up
abbrev pub is_free : List Place → Place → Bool
is_free taken place = not (list_any (same_place place) taken)

-- the lowest place that is free, where there is one
-- ours: the RFC leaves open which free element is taken
abbrev pub lowest_free : ℕ → ℕ → List Place → Option Place
lowest_free rmbs elements taken = find (is_free taken) (all_places rmbs elements)

-- the address of an RMB on every link
-- ours: the RFC leaves open where an RMB lies
abbrev pub rmb_address : ℕ → ℕ
rmb_address rmb = rmb * 2 ^ 32

-- the RMB in which an address lies
-- ours: the RFC leaves open where an RMB lies
abbrev pub rmb_at : ℕ → ℕ
rmb_at address = address / 2 ^ 32

-- the address at which an element of `size` bytes begins
-- RFC 7609, 4.2; nothing stands before or between the elements: ours
abbrev pub element_start : ℕ → Place → ℕ
element_start size place = rmb_address place.rmb + (place.index - 1) * size

-- the address of place n of a stream in its element
-- RFC 7609, 4.7: a stream goes round its element
abbrev pub address_of : ℕ → Place → ℕ → ℕ
address_of size place n = element_start size place + n % size
