-- What is true of every book stays true when something is learnt or forgotten, and no more is known than there is room for.
use Rattle.std.proofs.Common.{◌≡◌, ℕ, ◌*◌, ◌≤◌, Bool, List, length, filter, sym, subst, arith}
use Rattle.std.proofs.lemmas.List.{length-map}
use Rattle.smc_num.specs.Keys.{Key, AreBoundApart, IsInRange, AreInRange}
use Rattle.smc_num.proofs.KeyPlaces.{apart-filter, apart-binds, in_range-filter, in_range-binds, at_most}
use Rattle.key_book.specs.Books.{Learnt, keys_in, learns, IsBook}
use Rattle.key_book.proofs.KeysOf.{keys_in-learns, keys_in-filter}

module _ (rmbs links : ℕ) where
  -- something is learnt
  pub learns_book : (new : Learnt) (known : List Learnt) → IsBook (record { rmbs = rmbs; links = links; known = known }) → IsInRange rmbs links new.key.rmb new.key.link.slot → IsBook (record { rmbs = rmbs; links = links; known = learns new known })
  learns_book new known book here = record {
    apart = subst (λ ks. AreBoundApart ks) (sym (keys_in-learns new known)) (apart-binds new.key (keys_in known) book.apart);
    in_range = subst (λ ks. AreInRange rmbs links ks) (sym (keys_in-learns new known)) (in_range-binds rmbs links new.key (keys_in known) book.in_range here);
  }

  -- and there is room for it
  pub room_for : (new : Learnt) (known : List Learnt) → IsBook (record { rmbs = rmbs; links = links; known = known }) → IsInRange rmbs links new.key.rmb new.key.link.slot → length (learns new known) ≤ rmbs * links
  room_for new known book here =
      let after = learns_book new known book here in
      let le = at_most rmbs links (keys_in (learns new known)) after.apart after.in_range in
      let same = length-map (learns new known) (λ l. l.key) in
      omega (arith, le, same)

  -- some is forgotten
  pub filtered_book : (test : Key → Bool) (known : List Learnt) → IsBook (record { rmbs = rmbs; links = links; known = known }) → IsBook (record { rmbs = rmbs; links = links; known = filter (λ l. test l.key) known })
  filtered_book test known book = record {
    apart = subst (λ ks. AreBoundApart ks) (sym (keys_in-filter test known)) (apart-filter test (keys_in known) book.apart);
    in_range = subst (λ ks. AreInRange rmbs links ks) (sym (keys_in-filter test known)) (in_range-filter rmbs links test (keys_in known) book.in_range);
  }
