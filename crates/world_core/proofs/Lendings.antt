-- The lending of each socket is the one that its side's offer began, as long as its end is in the handshake or up.
use Rattle.std.proofs.Common.{◌≡◌, ◌∙◌, ℕ, Bool, true, false, if◌then◌else◌, List, [], ◌∷◌, refl, ap, sym}
use Rattle.std.specs.Prelude.{Option, Some, None, option_map}
use Rattle.smc_num.specs.declared.Side.{Side}
use Rattle.pipe_model.specs.declared.setup.Setup.{Setup}
use Rattle.pipe_model.specs.declared.entry.Entry.{Entry}
use Rattle.pipe_model.specs.History.{Offered, offered}
use Rattle.pipe_model.specs.Connections.{IsUp, early_state, end_state}
use Rattle.pipe_model.specs.Lending.{Lending, lends_by, lent}
use Rattle.world_core.specs.OneLink.{Stage, the_link}
use Rattle.world_core.specs.Sockets.{IsWorld}
use Rattle.world_core.specs.Managers.{HasLendings, keeps_element, lending_due, lending_on}
use Rattle.world_core.proofs.KeyedEnds.{behind}
use Rattle.world_core.proofs.KnownEntries.{LentToUp}

-- before any entry
pub none-lent : (setup : Setup) (payload : List ℕ) → HasLendings setup payload []
none-lent setup payload = record { each = λ x s. refl }

-- where nothing was offered
nothing : (b : Bool) → (if b then None else None) ≡ (let none : Option Lending = None in none)
nothing true = refl
nothing false = refl

pub no-lending-due : (x : Side) (s : ℕ) (past : List Entry) → offered x s past ≡ None → lending_due x s past ≡ None
no-lending-due x s past e =
    ap (λ o. if keeps_element (end_state x s past) then option_map (λ (o : Offered). lends_by s o.link o.offer) o else None) e ∙ nothing (keeps_element (end_state x s past))

pub lending-due : (x : Side) (s : ℕ) (past : List Entry) (o : Offered) → offered x s past ≡ Some o → keeps_element (end_state x s past) ≡ true → lending_due x s past ≡ Some (lends_by s o.link o.offer)
lending-due x s past o e k =
    ap (λ b. if b then option_map (λ (o : Offered). lends_by s o.link o.offer) (offered x s past) else None) k ∙ ap (λ o. option_map (λ (o : Offered). lends_by s o.link o.offer) o) e

pub due-same : (x : Side) (s : ℕ) (one two : List Entry) → end_state x s one ≡ end_state x s two → offered x s one ≡ offered x s two → lending_due x s one ≡ lending_due x s two
due-same x s one two state offer =
    ap (λ st. if keeps_element st then option_map (λ (o : Offered). lends_by s o.link o.offer) (offered x s one) else None) state
    ∙ ap (λ q. if keeps_element (end_state x s two) then option_map (λ (o : Offered). lends_by s o.link o.offer) q else None) offer

-- an entry that keeps lendings, offers and who is in the handshake or up
pub lendings-kept : (setup : Setup) (payload : List ℕ) (e : Entry) (past : List Entry) → HasLendings setup payload past → ((x : Side) → lent setup payload x (e ∷ past) ≡ lent setup payload x past)
    → ((x : Side) (s : ℕ) → offered x s (e ∷ past) ≡ offered x s past) → ((x : Side) (s : ℕ) → keeps_element (end_state x s (e ∷ past)) ≡ keeps_element (end_state x s past)) → HasLendings setup payload (e ∷ past)
lendings-kept setup payload e past h lent_same offers keeps = record {
  each = λ x s.
      ap (λ (ls : List Lending). lending_on s ls) (lent_same x)
      ∙ (h.each x s
      ∙ (ap (λ b. if b then option_map (λ (o : Offered). lends_by s o.link o.offer) (offered x s past) else None) (sym (keeps x s))
      ∙ ap (λ o. if keeps_element (end_state x s (e ∷ past)) then option_map (λ (o : Offered). lends_by s o.link o.offer) o else None) (sym (offers x s))));
}

-- so each end that is up has one
pub lent-to-up : (setup : Setup) (payload : List ℕ) (stage : Stage) (past : List Entry) → IsWorld setup stage past → HasLendings setup payload past → LentToUp setup payload past
lent-to-up setup payload stage past w h x s up =
    let k = w.sockets s in
    let at = k.stands in
    let i = behind k.at x (sym (at.up x) ∙ up) in
    (lends_by s the_link i.own, h.each x s ∙ lending-due x s past (record { link = the_link; offer = i.own }) (at.offer x ∙ i.ours) (ap (λ b. keeps_element (if b then IsUp else early_state x s past)) up))
