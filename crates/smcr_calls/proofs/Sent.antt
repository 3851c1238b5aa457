-- An answer that was put on an empty page, and what the sink has of it once the page was sent.
use Rattle.std.proofs.Common.{◌≡◌, ℕ, ◌≤◌, true, false, List, [], Option, arith}
use Rattle.byte_port.specs.Causes.{Rose}
use Rattle.byte_port.specs.Pages.{Stands}
use Rattle.byte_port.proofs.Paging.{flushed, unflushed, broken_off}
use Rattle.smcr_calls.specs.declared.top.Status.{Status}
use Rattle.smcr_calls.specs.declared.top.Status.TheVariants as statuses
use Rattle.smcr_calls.specs.Answers.{Answer, Puts, is_put, Sends, IsCaused}

module _ (answer : Answer) (a : Option (List ℕ)) (p : List ℕ) (empty : p ≡ []) (b : Option (List ℕ)) (q : List ℕ) where
  -- without memory nothing went out, and where the sink failed, a front
  pub kept : (status : Status) → is_put status ≡ false → Puts status answer a p b q → Sends status answer a b
  kept statuses.Ok e s = absurd (cc)
  kept statuses.NoMemory e s = s.0
  kept statuses.Usage e s = absurd s
  kept statuses.Refused e s = absurd (cc)
  kept statuses.ReadFault e s = absurd s
  kept statuses.WriteFault e s = broken_off a p empty b q answer.text s
  kept statuses.Spent e s = absurd (cc)
  kept statuses.TooLong e s = absurd s

  module _ (c : Option (List ℕ)) (r : List ℕ) (flush : Stands true b q c r []) where
    -- the page went out
    pub sent : (status : Status) → is_put status ≡ true → Puts status answer a p b q → r ≡ [] → Sends status answer a c
    sent statuses.Ok e s done = (s.0, flushed a p b q c r answer.text empty s.1 flush done)
    sent statuses.NoMemory e s done = absurd (cc)
    sent statuses.Usage e s done = absurd s
    sent statuses.Refused e s done = (s.0, flushed a p b q c r answer.text empty s.1 flush done)
    sent statuses.ReadFault e s done = absurd s
    sent statuses.WriteFault e s done = absurd (cc)
    sent statuses.Spent e s done = (s.0, flushed a p b q c r answer.text empty s.1 flush done)
    sent statuses.TooLong e s done = absurd s

    -- or a front of it did
    pub unsent : (status : Status) → is_put status ≡ true → Puts status answer a p b q → Sends statuses.WriteFault answer a c
    unsent statuses.Ok e s = unflushed a p b q c r answer.text empty s.1 flush
    unsent statuses.NoMemory e s = absurd (cc)
    unsent statuses.Usage e s = absurd s
    unsent statuses.Refused e s = unflushed a p b q c r answer.text empty s.1 flush
    unsent statuses.ReadFault e s = absurd s
    unsent statuses.WriteFault e s = absurd (cc)
    unsent statuses.Spent e s = unflushed a p b q c r answer.text empty s.1 flush
    unsent statuses.TooLong e s = absurd s

-- a count that rose has risen from before, and stays so
pub rose_later : (before now later : ℕ) → Rose before now → now ≤ later → Rose before later
rose_later before now later rose on = omega (arith, rose, on)

pub rose_since : (before now later : ℕ) → before ≤ now → Rose now later → Rose before later
rose_since before now later on rose = omega (arith, rose, on)

pub caused_later : (before now later : ℕ) (status : Status) → IsCaused before now status → now ≤ later → IsCaused before later status
caused_later before now later status c on = record { later = (let first = c.later in omega (arith, first, on)); failed = λ e. rose_later before now later (c.failed e) on }

pub caused_since : (before now later : ℕ) (status : Status) → IsCaused before now status → now ≤ later → Rose now later → IsCaused before later statuses.WriteFault
caused_since before now later status c on rose = record { later = (let first = c.later in omega (arith, first, on)); failed = λ e. rose_since before now later c.later rose }
