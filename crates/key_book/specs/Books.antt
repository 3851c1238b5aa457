-- What a side has learnt of its peer's keys: for each RMB and link the number, and the address at which the RMB begins.
use Rattle.std.specs.Prelude.{ℕ, not, ◌==◌, List, [], ◌∷◌, ◌++◌, map, filter, find, Option}
use Rattle.smc_num.specs.declared.LinkId.{LinkId}
use Rattle.smc_num.specs.Names.{has}
use Rattle.smc_num.specs.Keys.{Key, is_for, is_bound, rmbs_bound, AreBoundApart, AreInRange}

-- a key of the peer, and the address of its RMB
pub record Learnt : Type 0 where
  pub key : Key
  pub address : ℕ

-- a book for so many RMBs and slots; what was learnt last stands last
pub record Book : Type 0 where
  pub rmbs : ℕ
  pub links : ℕ
  pub known : List Learnt

-- the keys alone
abbrev pub keys_in : List Learnt → List Key
keys_in known = map (λ l. l.key) known

-- what is learnt takes the place of what was known of the same RMB for the same slot
abbrev pub learns : Learnt → List Learnt → List Learnt
learns new known = filter (λ l. not (is_for new.key.rmb new.key.link.slot l.key)) known ++ new ∷ []

-- all but what is known of an RMB
abbrev pub forgets : ℕ → List Learnt → List Learnt
forgets rmb known = filter (λ l. not (l.key.rmb == rmb)) known

-- all but what is known of the RMBs that have a key on a link
abbrev pub forgets_named : ℕ → LinkId → List Learnt → List Learnt
forgets_named key link known = filter (λ l. not (has l.key.rmb (rmbs_bound key link (keys_in known)))) known

-- what is known of an RMB for a link
abbrev pub known_for : ℕ → LinkId → List Learnt → Option Learnt
known_for rmb link known = find (λ l. is_bound rmb link l.key) known

-- what is true of every book
pub record IsBook (book : Book) : Type 0 where
  pub apart : AreBoundApart (keys_in book.known)
  pub in_range : AreInRange book.rmbs book.links (keys_in book.known)
