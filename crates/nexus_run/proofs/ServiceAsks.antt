-- What a service calls of the panel that is handed in stands behind what was called of it before.
use Rattle.std.proofs.Common.{Option, ap}
use Rattle.run_streams.specs.Runs.{SourceRun}
use Rattle.authority_ask.specs.PanelCalls.{PanelHistory}
use Rattle.nexus_serve.specs.Hosting.{Plan}
use Rattle.nexus_serve.specs.Hosting as host
use Rattle.nx_io.specs.Views.{DoorView, RecorderView, SinkView}
use Rattle.script_command.specs.Scripts.{HasMore}
use Rattle.script_command.proofs.ForCallers.{more_nothing}
use Rattle.service_commands.specs.Services.{EndedView, EndsService}
use Rattle.service_commands.specs.Services as service

pub service_more : {P C : Type 0} {panel : P → PanelHistory} {plan : Plan} {source : SourceRun} {sink : SinkView} {door : DoorView} {asked : P} {recorder : Option RecorderView} {ended : EndedView P C}
    → EndsService panel plan source sink door asked recorder ended → HasMore (panel asked) (panel ended.panel)
service_more (service.hosted head opening written end policy still (host.served doors means ready serves status)) = (_, ready.reached)
service_more (service.hosted head opening written end policy still (host.unreached status idle same none (host.not_reached no_share reached) kept)) = (_, reached.3)
service_more (service.hosted head opening written end policy still (host.unreached status idle same none (host.unshared few called) kept)) = (_, called)
service_more (service.hosted head opening written end policy still (host.unlent lent status idle same none count called failed)) = (_, called)
service_more (service.hosted head opening written end policy still (host.unheard status idle count called lent failed)) = (_, called)
service_more (service.hosted head opening written end policy still (host.unready lent status idle (host.no_lists no_door no_share none same called kept))) = (_, called)
service_more (service.hosted head opening written end policy still (host.unready lent status idle (host.no_panel no_door few none same called kept))) = (_, called)
service_more (service.hosted head opening written end policy still (host.unready lent status idle (host.no_recorder no_door all same called held))) = (_, called)
service_more (service.hosted head opening written end policy still (host.unready lent status idle (host.no_door few all all_lent called_door called kept))) = (_, called)
service_more {panel = panel} (service.unbegun sink_now idle output grows kept ends) = more_nothing (ap panel idle.panel_is)
