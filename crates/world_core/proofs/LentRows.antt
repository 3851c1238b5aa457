-- The rows of a side's elements beside its lendings: which are free, which is the lowest free one, and so by which facts a message is judged.
use Rattle.std.proofs.Common.{◌≡◌, ◌∙◌, ℕ, ◌<◌, ◌||◌, not, Bool, true, false, cond, List, [], ◌∷◌, length, map, filter, refl, ap, sym, suc}
use Rattle.std.specs.Prelude.{Option, Some, None, option_map, is_some}
use Rattle.std.specs.List.{find, list_any}
use Rattle.smc_num.specs.declared.Side.{Side}
use Rattle.smc_num.specs.Names.{head, has, up_to}
use Rattle.smc_num.specs.Places.{Place, same_place, all_places, is_free}
use Rattle.clc_wire.specs.declared.message.ClcMessage.{ClcMessage}
use Rattle.rmb_region.specs.Regions.{Buffer}
use Rattle.element_ledger.specs.Lendings.{Row, fresh, is_lent, first_free}
use Rattle.pipe_model.specs.declared.setup.Setup.{Setup}
use Rattle.pipe_model.specs.declared.verdict.Lacks.{Lacks}
use Rattle.pipe_model.specs.declared.entry.Entry.{Entry}
use Rattle.pipe_model.specs.Words.{passes, rmbs_of, elements_of}
use Rattle.pipe_model.specs.Fabric.{path_up}
use Rattle.pipe_model.specs.Connections.{end_state}
use Rattle.pipe_model.specs.Lending.{Lending, lendings, lent, lent_places, free_places}
use Rattle.pipe_model.specs.Fallback.{is_raw}
use Rattle.pipe_model.specs.Keys.{keys_of}
use Rattle.pipe_model.specs.Handshake.{verdict, lacks, slots_up}
use Rattle.pipe_model.specs.Replies.{clc_step}
use Rattle.clc_handshake.specs.Stages.{Hand}
use Rattle.side_core.specs.Desk.{free_place, lacks_of}
use Rattle.side_core.specs.Manager.{no_hand}
use Rattle.side_core.specs.Taking.{verdict_at}
use Rattle.world_core.specs.Managers.{manager_of, desk_of, hand_of, row_of, rows_of, lent_to, lending_at, epoch_in}
use Rattle.world_core.proofs.Tables.{at-socket}

-- a place is lent where some lending has it
found-lent : (all ls : List Lending) (p : Place) → is_lent (row_of all ls p) ≡ not (is_free (lent_places ls) p)
found-lent all ls p = by ls
  where
    lent-row : (o : Option ℕ) → is_lent (lent_to o (record (fresh p) { epoch = epoch_in p all })) ≡ is_some o
    lent-row None = refl
    lent-row (Some s) = refl

    not-not : (b : Bool) → not (not b) ≡ b
    not-not true = refl
    not-not false = refl

    step : (l : Lending) (ls : List Lending) (b : Bool) → is_some (option_map (λ (l : Lending). l.s) (lending_at p ls)) ≡ list_any (same_place p) (lent_places ls)
        → is_some (option_map (λ (l : Lending). l.s) (cond b (Some l) (lending_at p ls))) ≡ (b || list_any (same_place p) (lent_places ls))
    step l ls true e = refl
    step l ls false e = e

    found : (ls : List Lending) → is_some (option_map (λ (l : Lending). l.s) (lending_at p ls)) ≡ list_any (same_place p) (lent_places ls)
    found [] = refl
    found (l ∷ ls) = step l ls (same_place p l.place) (found ls)

    by : (ls : List Lending) → is_lent (row_of all ls p) ≡ not (is_free (lent_places ls) p)
    by ls = lent-row (option_map (λ (l : Lending). l.s) (lending_at p ls)) ∙ (found ls ∙ sym (not-not (list_any (same_place p) (lent_places ls))))

row-place : (all ls : List Lending) (p : Place) → (row_of all ls p).place ≡ p
row-place all ls p = by (option_map (λ (l : Lending). l.s) (lending_at p ls))
  where
    by : (o : Option ℕ) → (lent_to o (record (fresh p) { epoch = epoch_in p all })).place ≡ p
    by None = refl
    by (Some s) = refl

module _ (all ls : List Lending) where
  free-row : (p : Place) → not (is_lent (row_of all ls p)) ≡ is_free (lent_places ls) p
  free-row p = ap (λ b. not b) (found-lent all ls p) ∙ not-not (is_free (lent_places ls) p)
    where
      not-not : (b : Bool) → not (not b) ≡ b
      not-not true = refl
      not-not false = refl

  -- as many are free
  pub as-many-free : (ps : List Place) → length (filter (λ r. not (is_lent r)) (map (row_of all ls) ps)) ≡ length (filter (is_free (lent_places ls)) ps)
  as-many-free [] = refl
  as-many-free (p ∷ ps) = by (not (is_lent (row_of all ls p))) (is_free (lent_places ls) p) (free-row p) (as-many-free ps)
    where
      by : (b c : Bool) → b ≡ c → length (filter (λ r. not (is_lent r)) (map (row_of all ls) ps)) ≡ length (filter (is_free (lent_places ls)) ps)
          → length (cond b (row_of all ls p ∷ filter (λ r. not (is_lent r)) (map (row_of all ls) ps)) (filter (λ r. not (is_lent r)) (map (row_of all ls) ps))) ≡ length (cond c (p ∷ filter (is_free (lent_places ls)) ps) (filter (is_free (lent_places ls)) ps))
      by true true e r = ap suc r
      by false false e r = r
      by true false e r = cc
      by false true e r = cc

  -- the first free one
  pub first-free : (ps : List Place) → find (λ r. not (is_lent r)) (map (row_of all ls) ps) ≡ option_map (row_of all ls) (head (filter (is_free (lent_places ls)) ps))
  first-free [] = refl
  first-free (p ∷ ps) = by (not (is_lent (row_of all ls p))) (is_free (lent_places ls) p) (free-row p) (first-free ps)
    where
      by : (b c : Bool) → b ≡ c → find (λ r. not (is_lent r)) (map (row_of all ls) ps) ≡ option_map (row_of all ls) (head (filter (is_free (lent_places ls)) ps))
          → cond b (Some (row_of all ls p)) (find (λ r. not (is_lent r)) (map (row_of all ls) ps)) ≡ option_map (row_of all ls) (head (cond c (p ∷ filter (is_free (lent_places ls)) ps) (filter (is_free (lent_places ls)) ps)))
      by true true e r = refl
      by false false e r = r
      by true false e r = cc
      by false true e r = cc

module _ (setup : Setup) (payload : List ℕ) (x : Side) (past : List Entry) where
  pub free-is : first_free (rows_of setup payload x past) ≡ option_map (row_of (lendings x past) (lent setup payload x past)) (head (free_places setup payload x past))
  free-is = first-free (lendings x past) (lent setup payload x past) (all_places (rmbs_of setup x) (elements_of setup x))

  pub free-place : free_place (desk_of setup payload x past) ≡ head (free_places setup payload x past)
  free-place = ap (λ o. option_map (λ (r : Row). r.place) o) free-is ∙ by (head (free_places setup payload x past))
    where
      by : (o : Option Place) → option_map (λ (r : Row). r.place) (option_map (row_of (lendings x past) (lent setup payload x past)) o) ≡ o
      by None = refl
      by (Some p) = ap (λ q. Some q) (row-place (lendings x past) (lent setup payload x past) p)

  -- the paths that are up
  paths-up : setup.links ≡ 1 → length (filter (λ up. up) (path_up 1 past ∷ [])) ≡ length (slots_up setup past)
  paths-up one = by (path_up 1 past) ∙ ap (λ n. length (filter (λ k. path_up k past) (up_to n))) (sym one)
    where
      by : (b : Bool) → length (filter (λ up. up) (b ∷ [])) ≡ length {A = ℕ} (cond b (1 ∷ []) [])
      by true = refl
      by false = refl

  -- the facts by which a message is judged
  pub same-lacks : setup.links ≡ 1 → lacks_of (path_up 1 past ∷ []) (desk_of setup payload x past) ≡ lacks setup payload x past
  same-lacks one =
      ap (λ n. let l : Lacks = record (lacks_of (path_up 1 past ∷ []) (desk_of setup payload x past)) { free = n } in l) (as-many-free (lendings x past) (lent setup payload x past) (all_places (rmbs_of setup x) (elements_of setup x)))
      ∙ (ap (λ o. let l : Lacks = record (lacks setup payload x past) { rmb_ready = passes (λ p. has p.rmb (keys_of x past).confirmed) o; slots_up = length (filter (λ up. up) (path_up 1 past ∷ [])) } in l) free-place
      ∙ ap (λ n. let l : Lacks = record (lacks setup payload x past) { slots_up = n } in l) (paths-up one))

  -- and the verdict
  pub same-verdict : (regions : List Buffer) (s : ℕ) (m : ClcMessage) → setup.links ≡ 1 → s < setup.sockets → verdict_at s m (path_up 1 past ∷ []) (manager_of setup payload regions x past) ≡ clc_step setup payload x s m past
  same-verdict regions s m one known =
      ap (λ (h : Hand). verdict h.raw h.state m (lacks_of (path_up 1 past ∷ []) (desk_of setup payload x past))) (at-socket (hand_of x past) setup.sockets s no_hand known)
      ∙ ap (λ l. verdict (is_raw s past) (end_state x s past) m l) (same-lacks one)
