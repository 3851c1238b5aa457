-- The text of a message.
-- A reader learns here the one line that each message of the three protocols, or what is wrong with
-- its bytes, is shown as.
use Rattle.std.specs.Prelude.{ℕ, ◌/◌, ◌%◌, Bool, List, [], ◌∷◌, ◌++◌, codes, Result, Ok, Err, if◌then◌else◌}
use Rattle.std.specs.List.{flat_map}
use Rattle.std.specs.Fmt.{decimal}
use Rattle.scene_text.specs.Spelling.{hex_byte}
use Rattle.scene_text.specs.Fields.{number_field, two_numbers, flag_text, head_text, contact_text, cursor_text}
use Rattle.scene_text.specs.ReplyText.{fault_text}
use Rattle.clc_wire.specs.declared.proposal.Proposal.{Proposal as ProposalFields}
use Rattle.clc_wire.specs.declared.offer.Offer.{Offer}
use Rattle.clc_wire.specs.declared.refusal.Refusal.{Refusal}
use Rattle.clc_wire.specs.declared.message.ClcMessage.{ClcMessage}
use Rattle.clc_wire.specs.declared.message.ClcMessage.TheVariants.{Proposal, Accept, Confirm, Decline}
use Rattle.clc_wire.specs.declared.fault.ClcFault.{ClcFault}
use Rattle.llc_wire.specs.declared.LlcMessage.{LlcMessage}
use Rattle.llc_wire.specs.declared.LlcMessage.TheVariants.{ConfirmLink, AddLink, AddKeys, DeleteLink, ConfirmRkey, TestLink, DeleteRkey}
use Rattle.llc_wire.specs.declared.LlcFault.{LlcFault}
use Rattle.llc_wire.specs.declared.LlcFault.TheVariants as llc_faults
use Rattle.llc_wire.specs.declared.NewKey.{NewKey}
use Rattle.llc_wire.specs.declared.KeyToken.{KeyToken}
use Rattle.cdc_wire.specs.declared.CdcMessage.{CdcMessage}
use Rattle.cdc_wire.specs.declared.CdcFault.{CdcFault}
use Rattle.cdc_wire.specs.declared.CdcFault.TheVariants as cdc_faults

-- bytes in hexadecimal digits, two each
abbrev pub hex_text : List ℕ → List ℕ
hex_text bytes = flat_map hex_byte bytes

-- a field: its word, with the spaces around it, and bytes or a byte
abbrev pub hex_field : List ℕ → List ℕ → List ℕ
hex_field word bytes = word ++ hex_text bytes

abbrev pub byte_field : List ℕ → ℕ → List ℕ
byte_field word byte = word ++ hex_byte byte

-- two words, each where its flag is set
unfoldable pub two_flags : List ℕ → Bool → List ℕ → Bool → List ℕ
two_flags word on second_word second = flag_text word on ++ flag_text second_word second

-- the MAC and the GID of a port, in the order of LLC messages
unfoldable pub port_text : List ℕ → List ℕ → List ℕ
port_text mac gid = hex_field (codes " mac ") mac ++ hex_field (codes " gid ") gid

-- a peer and its port, in the order of CLC messages
unfoldable pub peer_text : List ℕ → List ℕ → List ℕ → List ℕ
peer_text peer gid mac = hex_field (codes " peer ") peer ++ (hex_field (codes " gid ") gid ++ hex_field (codes " mac ") mac)

-- an IPv4 address, its four bytes from the highest with points between them
unfoldable pub address_text : ℕ → List ℕ
address_text a =
    decimal (a / 16777216) ++ (number_field (codes ".") (a / 65536 % 256) ++ (number_field (codes ".") (a / 256 % 256) ++ number_field (codes ".") (a % 256)))

-- a subnet and the bits of its prefix
unfoldable pub subnet_text : ℕ → ℕ → List ℕ
subnet_text subnet prefix = codes " subnet " ++ (address_text subnet ++ number_field (codes "/") prefix)

abbrev pub proposal_text : ProposalFields → List ℕ
proposal_text p = codes "proposal" ++ (peer_text p.peer p.gid p.mac ++ (subnet_text p.subnet p.prefix ++ number_field (codes " prefixes ") p.v6))

-- the queue pair and the element that an offer brings
unfoldable pub element_text : Offer → List ℕ
element_text o = two_numbers (codes " qp ") o.qp (codes " key ") o.key ++ two_numbers (codes " index ") o.index (codes " token ") o.token

-- its sizes and places
unfoldable pub buffer_text : Offer → List ℕ
buffer_text o = two_numbers (codes " size ") o.size (codes " mtu ") o.mtu ++ two_numbers (codes " at ") o.address (codes " psn ") o.psn

-- an Accept or a Confirm, by its word
abbrev pub offer_text : List ℕ → Offer → List ℕ
offer_text word o = word ++ (contact_text o.first ++ (peer_text o.peer o.gid o.mac ++ (element_text o ++ buffer_text o)))

-- whether the peers are out of synch
abbrev pub synch_text : Bool → List ℕ
synch_text is_out = if is_out then codes " out" else codes " synch"

abbrev pub decline_text : Refusal → List ℕ
decline_text r = codes "decline" ++ (synch_text r.out ++ (hex_field (codes " peer ") r.peer ++ number_field (codes " diagnosis ") r.diagnosis))

abbrev pub clc_text : ClcMessage → List ℕ
clc_text (Proposal p) = proposal_text p
clc_text (Accept o) = offer_text (codes "accept") o
clc_text (Confirm o) = offer_text (codes "confirm") o
clc_text (Decline r) = decline_text r

abbrev pub clc_fault_text : ClcFault → List ℕ
clc_fault_text fault = codes "fault " ++ fault_text fault

-- one end of a link: its port and queue pair, and the number of the link
unfoldable pub link_text : List ℕ → List ℕ → ℕ → ℕ → List ℕ
link_text mac gid qp link = port_text mac gid ++ two_numbers (codes " qp ") qp (codes " link ") link

-- the reason of an offer that is rejected
abbrev pub rejected_text : Bool → ℕ → List ℕ
rejected_text rejected reason = if rejected then number_field (codes " rejected ") reason else []

-- a key for a new link: the one it stands beside, itself, and the address
abbrev pub new_key_text : NewKey → List ℕ
new_key_text k = number_field (codes " ") k.reference ++ (number_field (codes "=") k.fresh ++ number_field (codes "@") k.address)

-- a key and its address
abbrev pub key_text : List ℕ → KeyToken → List ℕ
key_text mark token = number_field mark token.key ++ number_field (codes "@") token.address

-- the same for the link of a number
abbrev pub token_text : KeyToken → List ℕ
token_text token = number_field (codes " ") token.number ++ key_text (codes "=") token

-- the tokens: the first is for the link that carries the message, and needs no number
abbrev pub tokens_text : List KeyToken → List ℕ
tokens_text [] = []
tokens_text (first ∷ others) = key_text (codes " ") first ++ flat_map token_text others

-- keys with spaces before them
abbrev pub keys_text : List ℕ → List ℕ
keys_text keys = flat_map (number_field (codes " ")) keys

abbrev pub llc_text : LlcMessage → List ℕ
llc_text (ConfirmLink reply mac gid qp link user most) =
    head_text (codes "confirm link") reply ++ (link_text mac gid qp link ++ two_numbers (codes " user ") user (codes " most ") most)
llc_text (AddLink reply rejected reason mac gid qp link mtu psn) =
    head_text (codes "add link") reply ++ (rejected_text rejected reason ++ (link_text mac gid qp link ++ two_numbers (codes " mtu ") mtu (codes " psn ") psn))
llc_text (AddKeys reply link count keys) =
    head_text (codes "add keys") reply ++ (two_numbers (codes " link ") link (codes " count ") count ++ flat_map new_key_text keys)
llc_text (DeleteLink reply all orderly link reason) =
    head_text (codes "delete link") reply ++ (two_flags (codes " all") all (codes " orderly") orderly ++ two_numbers (codes " link ") link (codes " reason ") reason)
llc_text (ConfirmRkey reply retry negative others tokens) =
    head_text (codes "confirm rkey") reply ++ (two_flags (codes " retry") retry (codes " negative") negative ++ (number_field (codes " others ") others ++ tokens_text tokens))
llc_text (TestLink reply bytes) = head_text (codes "test link") reply ++ hex_field (codes " ") bytes
llc_text (DeleteRkey reply negative count mask keys) =
    head_text (codes "delete rkey") reply ++ (flag_text (codes " negative") negative ++ (number_field (codes " count ") count ++ (byte_field (codes " mask ") mask ++ keys_text keys)))

abbrev pub llc_fault_text : LlcFault → List ℕ
llc_fault_text (llc_faults.BadType value) = number_field (codes "fault bad type ") value
llc_fault_text (llc_faults.BadLength value) = number_field (codes "fault bad length ") value
llc_fault_text (llc_faults.BadCount value) = number_field (codes "fault bad count ") value

abbrev pub cdc_text : CdcMessage → List ℕ
cdc_text m =
    two_numbers (codes "cdc number ") m.number (codes " token ") m.token ++ (cursor_text (codes " told ") m.told ++ (cursor_text (codes " read ") m.read
    ++ (byte_field (codes " producer ") m.producer ++ byte_field (codes " state ") m.state)))

abbrev pub cdc_fault_text : CdcFault → List ℕ
cdc_fault_text (cdc_faults.BadType value) = number_field (codes "fault bad type ") value
cdc_fault_text (cdc_faults.BadLength value) = number_field (codes "fault bad length ") value

-- the line of a message that was read, or of the fault of its bytes
abbrev pub clc_line : Result ClcMessage ClcFault → List ℕ
clc_line (Ok message) = clc_text message ++ codes "\n"
clc_line (Err fault) = clc_fault_text fault ++ codes "\n"

abbrev pub llc_line : Result LlcMessage LlcFault → List ℕ
llc_line (Ok message) = llc_text message ++ codes "\n"
llc_line (Err fault) = llc_fault_text fault ++ codes "\n"

abbrev pub cdc_line : Result CdcMessage CdcFault → List ℕ
cdc_line (Ok message) = cdc_text message ++ codes "\n"
cdc_line (Err fault) = cdc_fault_text fault ++ codes "\n"
