-- The keys of a side in first contact: the one that it offered, and no other RMB is confirmed.
use Rattle.std.specs.Prelude.{List, Some, true, ℕ, ◌≡◌}
use Rattle.history_laws.specs.Words.{Entry, Offered, Side, flow_of, group_of, is_first_contact, keys_of, offered, rmb_at}
use Rattle.history_laws.specs.Lists.{IsAmong}
use Rattle.link_laws.specs.KeyChanges.{offered_key}

-- while a side is in first contact in the group of its offer, it has the key that it offered, and has confirmed no other RMB
pub record HasFirstKeys (x : Side) (past : List Entry) : Type 0 where
  -- Clc: the offer of first contact binds its key
  pub key : (s : ℕ) (o : Offered) → offered x s past ≡ Some o → o.offer.first ≡ true → is_first_contact (flow_of x past).link ≡ true → group_of x past ≡ o.link.group → IsAmong (offered_key o) (keys_of x past).keys
  -- Deliver: no key is asked about before the first link is confirmed
  pub only : (s : ℕ) (o : Offered) → offered x s past ≡ Some o → o.offer.first ≡ true → is_first_contact (flow_of x past).link ≡ true → group_of x past ≡ o.link.group → (r : ℕ) → IsAmong r (keys_of x past).confirmed → r ≡ rmb_at o.offer.address
