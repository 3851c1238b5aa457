-- A manager that stands for a plain one stands for it as well once a message of one of its ends has left for the peer: the end doesn't keep that.
use Rattle.std.proofs.Common.{◌∙◌, ℕ, zero, suc, List, [], ◌∷◌, sym}
use Rattle.std.proofs.lemmas.List.{length-set}
use Rattle.std.specs.Prelude.{Option, Some, None, option_map, slice_index_or, slice_set}
use Rattle.smc_num.specs.Links.{Known}
use Rattle.pipe_model.specs.Ends.{Half, lands}
use Rattle.conn_end.specs.Kept.{Kept}
use Rattle.side_core.specs.Records.{Connection, StandsAt, conn_at}
use Rattle.side_core.specs.Manager.{Manager, Represents, IsTiedAt}
use Rattle.world_core.specs.Managers.{changes_end}

-- what a place finds after a change of one of them
changed-at : {X : Type 0} (f : X → X) (xs : List (Option X)) (s t : ℕ) (P : Option X → Type 0) → P (slice_index_or xs t None) → P (option_map f (slice_index_or xs t None))
    → P (slice_index_or (slice_set xs s (option_map f (slice_index_or xs s None))) t None)
changed-at f [] s t P p q = p
changed-at f (x ∷ xs) zero zero P p q = q
changed-at f (x ∷ xs) zero (suc t) P p q = p
changed-at f (x ∷ xs) (suc s) zero P p q = p
changed-at f (x ∷ xs) (suc s) (suc t) P p q = changed-at f xs s t P p q

abbrev left : Connection Half → Connection Half
left c = record c { end = lands c.end }

still-stands : (k : Option (Connection Kept)) (c : Option (Connection Half)) → StandsAt k c → StandsAt k (option_map left c)
still-stands None None s = tt
still-stands None (Some c) s = absurd s
still-stands (Some k) None s = absurd s
still-stands (Some k) (Some c) s = record { route = s.route; up = s.up; link = s.link; end = s.end }

still-tied : (known : List Known) (c : Option (Connection Half)) → IsTiedAt known c → IsTiedAt known (option_map left c)
still-tied known None t = tt
still-tied known (Some c) t = record { live = t.live }

pub left-stands : (s : ℕ) (v : Manager Kept) (m : Manager Half) → Represents v m → Represents v (changes_end s lands m)
left-stands s v m st =
    let works = st.works in
    let records = works.records in
    let r = m.records in
    record {
      works = record {
        desk = works.desk;
        records = record {
          terms = records.terms;
          tokens = records.tokens;
          spare = records.spare;
          sockets = records.sockets ∙ sym (length-set r.by_socket s (option_map left (conn_at s r)));
          each = λ t. changed-at left r.by_socket s t (λ o. StandsAt (conn_at t v.records) o) (records.each t) (still-stands (conn_at t v.records) (conn_at t r) (records.each t));
          sizes = records.sizes;
        };
        tied = λ t. changed-at left r.by_socket s t (λ o. IsTiedAt m.desk.links.known o) (works.tied t) (still-tied m.desk.links.known (conn_at t r) (works.tied t));
      };
      hands = st.hands;
      regions = st.regions;
    }
