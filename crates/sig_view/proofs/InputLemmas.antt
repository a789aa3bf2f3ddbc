-- Why there is no input, as the tool says it and as the viewer does.
use Rattle.std.proofs.Common.{◌≡◌, sym, subst}
use Rattle.sig_edge.specs.Streams.{Reading}
use Rattle.sig_tool.specs.declared.status.ToolStatus.{ToolStatus}
use Rattle.sig_tool.specs.declared.status.ToolStatus.TheVariants as tool
use Rattle.sig_tool.specs.Inputs.{IsUnfit}
use Rattle.sig_view.specs.declared.command.Command.{Command}
use Rattle.sig_view.specs.declared.status.ViewStatus.{ViewStatus}
use Rattle.sig_view.specs.declared.status.ViewStatus.TheVariants.{Done, BadScript, Usage, ReadFault, WriteFault, Memory, No, BadRecord, TooLong, NoEvent, TooManyEvents, NoOutcome, NotFound, Unfinished}
use Rattle.sig_view.specs.Statuses.{of_tool}
use Rattle.sig_view.specs.Inputs.{IsNoInput, IsUnfitRecord}

pub no_input : (r : Reading) (status : ToolStatus) → IsUnfit r status → IsNoInput r (of_tool status)
no_input r tool.Done h = absurd h.2
no_input r (tool.BadScript line kind) h = h
no_input r tool.Usage h = absurd h.2
no_input r tool.ReadFault h = h
no_input r tool.WriteFault h = absurd h.2
no_input r tool.Memory h = h
no_input r (tool.No event) h = h
no_input r (tool.BadRecord line) h = h
no_input r tool.TooLong h = h
no_input r tool.NoEvent h = absurd h.2
no_input r (tool.BadCall line kind) h = absurd h.2

pub said_input : (r : Reading) (status : ToolStatus) (said : ViewStatus) → said ≡ of_tool status → IsUnfit r status → IsNoInput r said
said_input r status said is h = subst (λ (s : ViewStatus). IsNoInput r s) (sym is) (no_input r status h)

pub unfit_record : (command : Command) (r : Reading) (status : ViewStatus) → IsNoInput r status → IsUnfitRecord command r status
unfit_record command r Done h = h
unfit_record command r (BadScript line kind) h = h
unfit_record command r Usage h = h
unfit_record command r ReadFault h = h
unfit_record command r WriteFault h = h
unfit_record command r Memory h = h
unfit_record command r (No event) h = h
unfit_record command r (BadRecord line) h = h
unfit_record command r TooLong h = h
unfit_record command r NoEvent h = absurd h
unfit_record command r TooManyEvents h = absurd h
unfit_record command r NoOutcome h = h
unfit_record command r (NotFound met) h = h
unfit_record command r (Unfinished states) h = h
