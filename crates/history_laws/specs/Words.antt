-- The words of the crates below that most files here use, in one place.
pub use Rattle.cdc_wire.specs.declared.CdcMessage.{CdcMessage}
pub use Rattle.clc_wire.specs.declared.fault.ClcFault.{ClcFault}
pub use Rattle.clc_wire.specs.declared.message.ClcMessage.{ClcMessage}
pub use Rattle.clc_wire.specs.declared.offer.Offer.{Offer}
pub use Rattle.clc_wire.specs.declared.proposal.Proposal.{Proposal}
pub use Rattle.clc_wire.specs.declared.refusal.Refusal.{Refusal}
pub use Rattle.llc_wire.specs.declared.KeyToken.{KeyToken}
pub use Rattle.llc_wire.specs.declared.LlcMessage.{LlcMessage}
pub use Rattle.llc_wire.specs.declared.LlcMessage.TheVariants.{AddKeys, AddLink, ConfirmLink, ConfirmRkey, DeleteLink, DeleteRkey, TestLink}
pub use Rattle.llc_wire.specs.declared.NewKey.{NewKey}
pub use Rattle.pipe_model.specs.Calls.{Aborts, Awaits, Call, Closes, Finishes, Reads, Writes, calls, is_ended}
pub use Rattle.pipe_model.specs.Closing.{after_close, after_completing, after_finish, after_moving, cause_of, is_closing}
pub use Rattle.pipe_model.specs.Connections.{EndState, HasFallen, IsUp, NoEnd, WaitsAnswer, WaitsConfirm, WaitsLink, WaitsProposal, WasReset, after_clc, after_event, after_loss, after_raw, completed_at, confirmed_by, deeds, early_state, end_state, fate_of, fates, group_end, group_on, if_own, is_fate, is_first_on, is_own, is_up, items, landed_at, named_link, part, phase_of, up_by, ups}
pub use Rattle.pipe_model.specs.Ends.{Half, check, completes, counts_completed, is_due, is_due_for_move, is_over, lowest_link, meets_fate, posts_batch, settle, strikes, takes_snapshot, to_complete, to_land, unread, validates, window}
pub use Rattle.pipe_model.specs.Fabric.{Act, Fabric, Peer, act_by, act_in, act_of, asks_delete, asks_key, asks_link, begins_group, confirms_on, ends_group, fabric, flow_of, goes_on, group_of, has_ended, is_latest, is_whole, latest, llc_step, loses_group_with, made_on, makes, path_up, peer, reports, table_of, view_of, with_flow, with_peer, without_slot}
pub use Rattle.pipe_model.specs.Fallback.{Faulty, Front, NoMessage, Whole, clc_in, front, front_of, is_name_used, is_opened, is_raw, stream, takes_clc, takes_message, untaken}
pub use Rattle.pipe_model.specs.Flows.{Abandoned, AddSeen, AddSent, Drop, FirstContact, Flow, KeysSent, LinkFlow, NoFlow, after_answer, begins_delete, begins_drop, begins_test, flow_after, flow_slot, flow_step, is_adding, is_asked, is_deleting, is_dropping, is_first_contact, lost_link, named_slot, no_flow, on_add_keys, on_add_keys_reply, on_add_link, on_add_link_reject, on_add_link_reply, on_confirm_link, on_confirm_link_reply, on_confirm_rkey, on_confirm_rkey_reply, on_delete_rkey_reply, on_new_link, resends_add, resends_key}
pub use Rattle.pipe_model.specs.Handshake.{first_contact_step, key_step, lacks, on_accept, on_first_accept, on_later_accept, on_proposal}
pub use Rattle.pipe_model.specs.History.{Offered, is_cdc, next_number, numbered, offer_in, offered, offered_if, post_at}
pub use Rattle.pipe_model.specs.Keys.{Binding, Keys, book_of, by_act, keys_of, known_rmb, last_binding, named_rmbs, no_keys, token_rmb, withdraws}
pub use Rattle.pipe_model.specs.Lawful.{act_posts, draft, front_posts, reply_of}
pub use Rattle.pipe_model.specs.Lending.{RelendsOnlyDone, Lending, gives_up, is_done_with, is_out, is_over_on, leaves_handshake, lendings, lends, lends_by, lent, pipe_of, record_of, returns, terms_of, told_last}
pub use Rattle.pipe_model.specs.Messages.{add_keys, confirm_link, delete_link, delete_reply, key_on, key_reply, pair_on, proposal, refusal}
pub use Rattle.pipe_model.specs.Parts.{EachOf, IsFeasible, IsMarked, has_last, is_broken}
pub use Rattle.pipe_model.specs.Pipe.{Calls, Completes, Fate, GroupEnd, Item, Pipe, Terms, Up, apply, half, pipe, posts_of, step}
pub use Rattle.pipe_model.specs.Posts.{accept_post, add_again, cdc_posts, clc_posts, confirm_post, connection_posts, deleting_rmbs, drop_posts, end_posts, fewest, first_link, groups_begun, grow_post, is_offered, key_again, lighter, lightest, link_now, load, loss_posts, new_offer, next_free, offered_place, offered_sockets, peer_of, pipe_posts, proposal_post, ready_posts, report_posts, rkey_post, sent_posts, step_posts, test_post, trim_post, trimmed, writes}
pub use Rattle.pipe_model.specs.Replies.{clc_step, clc_told, dead_at, deliver_told, expects, front_told, grow_to, grow_told, is_asking_or_waiting, lands_told, open_slots, open_told, report_told, standing_at, step_told, test_told, trim_told}
pub use Rattle.pipe_model.specs.Snapshot.{is_last, shows_gap, spelled, validation}
pub use Rattle.pipe_model.specs.Wires.{completed_told, completes_later, if_latest, is_cut, is_dead, is_on, landing_on, leaves, some_reported, swallow_limit, swallowed, swallowed_on, uncompleted, unlanded}
pub use Rattle.pipe_model.specs.Words.{element_size, elements_of, is_nil, passes, rmbs_of}
pub use Rattle.pipe_model.specs.declared.entry.Entry.{Entry}
pub use Rattle.pipe_model.specs.declared.event.Event.{Event}
pub use Rattle.pipe_model.specs.declared.event.Event.TheVariants.{Abort, Await, Close, Complete, Cut, Deliver, Finish, Grow, Heal, Move, Open, Read, Report, Swallow, Test, Trim}
pub use Rattle.pipe_model.specs.declared.flow.FlowStep.{FlowStep}
pub use Rattle.pipe_model.specs.declared.flow.FlowStep.TheVariants.{AskLink, Echo, Forget, Gone, Learn, Over, Reject, ReplyAdd, ReplyKeys, ReplyRetry, Retry, SendKeys, Skip, Withdraw}
pub use Rattle.pipe_model.specs.declared.flow.KeyPhase.{KeyPhase}
pub use Rattle.pipe_model.specs.declared.flow.KeyPhase.TheVariants.{Deleting}
pub use Rattle.pipe_model.specs.declared.flow.LinkView.{LinkView}
pub use Rattle.pipe_model.specs.declared.post.Placed.{Placed}
pub use Rattle.pipe_model.specs.declared.post.Post.{Post}
pub use Rattle.pipe_model.specs.declared.post.Post.TheVariants.{Cdc, Llc}
pub use Rattle.pipe_model.specs.declared.post.PostRef.{PostRef}
pub use Rattle.pipe_model.specs.declared.reply.Hold.{Hold}
pub use Rattle.pipe_model.specs.declared.reply.Hold.TheVariants.{OldGroup}
pub use Rattle.pipe_model.specs.declared.reply.Lack.{Lack}
pub use Rattle.pipe_model.specs.declared.reply.Lack.TheVariants.{GroupLost, NoClientElement, NoServerElement, NoSlot, NoSubnet, NotCapable}
pub use Rattle.pipe_model.specs.declared.reply.Reply.{Reply}
pub use Rattle.pipe_model.specs.declared.reply.Reply.TheVariants.{Bytes, Completed, Declined, Done, Dropped, Empty, Ended, Established, FellBack, Full, GroupEnded, Held, Landed, Moved, NameUsed, NoSocket, NotYet, Opened, Reset, Wrote}
pub use Rattle.pipe_model.specs.declared.reply.ResetCause.TheVariants.{BadClc, BadStep, Gap, NoLiveLink, PeerAbort}
pub use Rattle.pipe_model.specs.declared.setup.Setup.{Setup}
pub use Rattle.pipe_model.specs.declared.verdict.ClcStep.{ClcStep}
pub use Rattle.pipe_model.specs.declared.verdict.ClcStep.TheVariants.{AskKey, Decline, Fell, Lost, Ready, SendAccept, SendConfirm, Wait, Wrong}
pub use Rattle.pipe_model.specs.declared.verdict.Lacks.{Lacks}
pub use Rattle.smc_num.specs.Keys.{Key, is_for, is_used, key_base, number_for, registers, registers_all, registers_on}
pub use Rattle.smc_num.specs.Links.{Known, all_dead, at_slot, dead, is_live, is_pending, is_standing, link_at, link_or_none, live_links, lowest_live, phase_at, put, same_phase, set_phase, stands, unpending, with_phase}
pub use Rattle.smc_num.specs.Names.{at_side, has, has_link, head, no_link, other, same_link, same_side, up_to}
pub use Rattle.smc_num.specs.Numbers.{wire_number}
pub use Rattle.smc_num.specs.Places.{Place, all_places, rmb_address, rmb_at, same_place}
pub use Rattle.smc_num.specs.declared.LinkId.{LinkId}
pub use Rattle.smc_num.specs.declared.LinkPhase.{LinkPhase}
pub use Rattle.smc_num.specs.declared.LinkPhase.TheVariants.{Dead, Pending, Unused}
pub use Rattle.smc_num.specs.declared.Side.{Side}
pub use Rattle.smc_num.specs.declared.Side.TheVariants.{A, B}
