-- The definitions on small examples: each is computed.
use Rattle.std.proofs.Common.{◌≡◌, ℕ, ◌+◌, ◌*◌, true, false, List, [], ◌∷◌, Some, None, refl}
use Rattle.smc_num.specs.declared.LinkId.{LinkId}
use Rattle.smc_num.specs.declared.LinkPhase.TheVariants.{Pending, Live, Dead}
use Rattle.smc_num.specs.declared.Side.TheVariants.{B}
use Rattle.smc_num.specs.Names.{no_link}
use Rattle.smc_num.specs.Numbers.{wire_number, cursor_of, is_past}
use Rattle.smc_num.specs.Links.{Known, put, set_phase, all_dead, link_or_none, stands, live_links, unpending, lowest_live}
use Rattle.smc_num.specs.Keys.{Key, key_base, number_for, registers, registers_all, bound, rmbs_bound, rmb_bound, without_key, without_rmb}
use Rattle.smc_num.specs.Places.{Place, all_places, lowest_free, rmb_at, element_start, address_of}

-- a cursor in the third round of an element of 16,384 bytes
third_round : cursor_of 16_384 40_000 ≡ record { wrap = 2; count = 7_232 }
third_round = refl

-- and the wraps begin anew
wraps_anew : cursor_of 16_384 (65_536 * 16_384 + 5) ≡ record { wrap = 0; count = 5 }
wraps_anew = refl

-- the circle of numbers
number_wraps : wire_number 65_541 ≡ 5
number_wraps = refl

zero_is_past_the_last : is_past 0 65_535 ≡ true
zero_is_past_the_last = refl

the_last_is_not_past_zero : is_past 65_535 0 ≡ false
the_last_is_not_past_zero = refl

no_number_is_past_itself : is_past 7 7 ≡ false
no_number_is_past_itself = refl

nearly_half_is_past : is_past 32_774 7 ≡ true
nearly_half_is_past = refl

half_is_not_past : is_past 32_775 7 ≡ false
half_is_not_past = refl

-- links of a first group
abbrev link : ℕ → ℕ → LinkId
link slot incarnation = record { group = 1; slot = slot; incarnation = incarnation }

abbrev known_links : List Known
known_links = record { link = link 1 1; phase = Dead } ∷ record { link = link 2 1; phase = Live } ∷ record { link = link 3 1; phase = Pending } ∷ []

lowest_of_three : lowest_live known_links ≡ 2
lowest_of_three = refl

live_of_three : live_links (set_phase 3 Live known_links) ≡ link 2 1 ∷ link 3 1 ∷ []
live_of_three = refl

told_of_three : unpending known_links ≡ link 1 1 ∷ link 2 1 ∷ []
told_of_three = refl

-- the first slot gets a new link, the second one is reported
renewed : put (record { link = link 1 2; phase = Pending }) (set_phase 2 Dead known_links)
    ≡ record { link = link 1 2; phase = Pending } ∷ record { link = link 2 1; phase = Dead } ∷ record { link = link 3 1; phase = Pending } ∷ []
renewed = refl

in_between : put (record { link = link 2 1; phase = Pending }) (record { link = link 1 1; phase = Live } ∷ record { link = link 3 1; phase = Live } ∷ [])
    ≡ record { link = link 1 1; phase = Live } ∷ record { link = link 2 1; phase = Pending } ∷ record { link = link 3 1; phase = Live } ∷ []
in_between = refl

none_lives : lowest_live (all_dead known_links) ≡ 0
none_lives = refl

only_that_very_link_stands : stands (link 2 2) known_links ≡ false
only_that_very_link_stands = refl

an_unknown_slot : link_or_none 4 known_links ≡ no_link
an_unknown_slot = refl

-- keys of side B: two RMBs on two links
abbrev two_by_two : List Key
two_by_two = registers_all (key_base B) (link 2 1) (1 ∷ 2 ∷ []) (registers_all (key_base B) (link 1 1) (1 ∷ 2 ∷ []) [])

numbers_in_order : two_by_two ≡
    record { key = 513; rmb = 1; link = link 1 1 } ∷ record { key = 514; rmb = 2; link = link 1 1 }
    ∷ record { key = 515; rmb = 1; link = link 2 1 } ∷ record { key = 516; rmb = 2; link = link 2 1 } ∷ []
numbers_in_order = refl

-- a new link on the slot keeps the number of the RMB, and the earlier link has it no more
keeps_its_number : bound 2 (link 1 2) (registers (key_base B) 2 two_by_two (link 1 2)) ≡ Some 514
keeps_its_number = refl

earlier_link_has_none : bound 2 (link 1 1) (registers (key_base B) 2 two_by_two (link 1 2)) ≡ None
earlier_link_has_none = refl

-- a number that was withdrawn is the next one given
lowest_is_given : number_for (key_base B) 3 1 (without_rmb 1 two_by_two) ≡ 513
lowest_is_given = refl

by_number : rmbs_bound 516 (link 2 1) two_by_two ≡ 2 ∷ []
by_number = refl

not_on_that_link : rmb_bound 516 (link 1 1) two_by_two ≡ None
not_on_that_link = refl

withdrawn : rmb_bound 516 (link 2 1) (without_key 516 two_by_two) ≡ None
withdrawn = refl

-- elements of two RMBs of two
abbrev place : ℕ → ℕ → Place
place rmb index = record { rmb = rmb; index = index }

four_places : all_places 2 2 ≡ place 1 1 ∷ place 1 2 ∷ place 2 1 ∷ place 2 2 ∷ []
four_places = refl

lowest_place : lowest_free 2 2 (place 2 1 ∷ place 1 1 ∷ []) ≡ Some (place 1 2)
lowest_place = refl

no_place : lowest_free 1 2 (place 1 2 ∷ place 1 1 ∷ []) ≡ None
no_place = refl

second_element : element_start 16_384 (place 2 3) ≡ 8_589_967_360
second_element = refl

in_the_element : address_of 16_384 (place 1 2) 16_390 ≡ 4_294_983_686
in_the_element = refl

in_the_rmb : rmb_at (address_of 16_384 (place 2 3) 77) ≡ 2
in_the_rmb = refl
