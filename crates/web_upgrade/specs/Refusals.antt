-- How a request is refused that opens no WebSocket.
use Rattle.std.specs.Prelude.{ℕ, List, codes}
use Rattle.websocket.specs.declared.handshake.failure.HandshakeError.{HandshakeError}
use Rattle.websocket.specs.declared.handshake.failure.HandshakeError.TheVariants as Head
use Rattle.web_upgrade.specs.declared.refusals.Refusal.{Refusal}
use Rattle.web_upgrade.specs.declared.refusals.Refusal.TheVariants.{Bad, Method, Upgrade, TooLong}

-- The refusal of a whole head that asks for no WebSocket.
abbrev pub refusal_of : HandshakeError → Refusal
refusal_of Head.WrongHttpMethod = Method
refusal_of Head.MissingConnectionUpgradeHeader = Upgrade
refusal_of Head.MissingUpgradeWebSocketHeader = Upgrade
refusal_of Head.MissingSecWebSocketVersionHeader = Upgrade
refusal_of e = Bad

-- The response to a request that is refused.
abbrev pub refusal_bytes : Refusal → List ℕ
refusal_bytes Bad =
    codes "HTTP/1.1 400 Bad Request\r\nConnection: close\r\nContent-Length: 0\r\n\r\n"
refusal_bytes Method =
    codes "HTTP/1.1 405 Method Not Allowed\r\nAllow: GET\r\nConnection: close\r\nContent-Length: 0\r\n\r\n"
refusal_bytes Upgrade =
    codes "HTTP/1.1 426 Upgrade Required\r\nUpgrade: websocket\r\nSec-WebSocket-Version: 13\r\nConnection: Upgrade, close\r\nContent-Length: 0\r\n\r\n"
refusal_bytes TooLong =
    codes "HTTP/1.1 431 Request Header Fields Too Large\r\nConnection: close\r\nContent-Length: 0\r\n\r\n"
