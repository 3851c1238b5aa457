-- The elements of a side's RMBs, how often each was lent, and to which connection it is lent now.
use Rattle.std.specs.Prelude.{◌≡◌, ℕ, ◌+◌, ◌==◌, ◌&&◌, not, Bool, true, false, if◌then◌else◌, List, ◌∷◌, ◌++◌, map, filter, find, Option, Some, None, is_some, option_and_then, IsSome}
use Rattle.std.specs.List.{list_any}
use Rattle.std.specs.Option.{option_map_or}
use Rattle.smc_num.specs.Places.{Place, same_place, all_places}
use Rattle.element_ledger.specs.declared.Element.{Element}
use Rattle.element_ledger.specs.declared.rows.Lending.{Lending}
use Rattle.element_ledger.specs.declared.rows.Change.{Change}
use Rattle.element_ledger.specs.declared.rows.Change.TheVariants.{OwnGone, PeerGone, GivenBack}

-- an element: where it lies, how often it was lent, and its lending, where it is lent now
pub record Row : Type 0 where
  pub place : Place
  pub epoch : ℕ
  pub lending : Option Lending

-- a side has so many RMBs of so many elements, the lowest place first
pub record Rows : Type 0 where
  pub rmbs : ℕ
  pub elements : ℕ
  pub rows : List Row

-- what is true of every ledger: it has each element of the side once, in order
abbrev pub IsLedger : Rows → Type 0
IsLedger v = map (λ r. r.place) v.rows ≡ all_places v.rmbs v.elements

-- an element that was never lent
abbrev pub fresh : Place → Row
fresh place = record { place = place; epoch = 0; lending = None }

-- whether an element is lent
abbrev pub is_lent : Row → Bool
is_lent r = is_some r.lending

-- the first element that is free
abbrev pub first_free : List Row → Option Row
first_free rows = find (λ r. not (is_lent r)) rows

-- the places of the elements that are lent
abbrev pub lent_places : List Row → List Place
lent_places rows = map (λ r. r.place) (filter is_lent rows)

-- whether no element of an RMB is lent
abbrev pub is_idle : ℕ → List Row → Bool
is_idle rmb rows = not (list_any (λ r. (r.place.rmb == rmb) && is_lent r) rows)

-- the place of an element
abbrev pub place_of : Element → Place
place_of e = record { rmb = e.rmb; index = e.index }

-- one element changes
abbrev pub changes_at : Place → (Row → Row) → Row → Row
changes_at place f r = if same_place place r.place then f r else r

-- the next lending of an element, to a connection
abbrev pub lends : ℕ → Row → Row
lends conn r = record r { epoch = r.epoch + 1; lending = Some (record { conn = conn; own = false; peer = false }) }

-- an element in its next lending
abbrev pub next_lending : Row → Element
next_lending r = record { rmb = r.place.rmb; index = r.place.index; epoch = r.epoch + 1 }

-- what becomes of a lending
abbrev pub changed_lending : Change → Lending → Option Lending
changed_lending OwnGone l = Some (record l { own = true })
changed_lending PeerGone l = Some (record l { peer = true })
changed_lending GivenBack l = None

-- what becomes of a lent element
abbrev pub changed : Change → Row → Row
changed change r = record r { lending = option_and_then (changed_lending change) r.lending }

-- it is lent to nobody
abbrev pub freed : Row → Row
freed r = record r { lending = None }

-- whether that is the element in its present epoch
abbrev pub is_now : Element → Row → Bool
is_now e r = same_place (place_of e) r.place && (r.epoch == e.epoch)

-- the lending of an element in its epoch, where it stands
abbrev pub lending_of : Element → List Row → Option Lending
lending_of e rows = option_and_then (λ r. r.lending) (find (is_now e) rows)

-- the element is lent in its epoch
abbrev pub IsLent : Element → List Row → Type 0
IsLent e rows = IsSome (lending_of e rows)

-- whether the own end of a lending has gone
abbrev pub own_gone : Element → List Row → Bool
own_gone e rows = option_map_or (λ (l : Lending). l.own) (lending_of e rows) false

-- whether the peer's end has gone
abbrev pub peer_gone : Element → List Row → Bool
peer_gone e rows = option_map_or (λ (l : Lending). l.peer) (lending_of e rows) false

-- an element stands once among these: a change of it leaves what stands before and after it
pub record StandsOnce (r : Row) (rows : List Row) : Type 0 where
  pub before : List Row
  pub after : List Row
  pub whole : rows ≡ before ++ r ∷ after
  pub change : (f : Row → Row) → map (changes_at r.place f) rows ≡ before ++ f r ∷ after

-- an element has that lending in its epoch, and stands once among these
pub record HasLending (e : Element) (l : Lending) (rows : List Row) : Type 0 where
  pub row : Row
  pub place : row.place ≡ place_of e
  pub epoch : row.epoch ≡ e.epoch
  pub lending : row.lending ≡ Some l
  pub once : StandsOnce row rows
