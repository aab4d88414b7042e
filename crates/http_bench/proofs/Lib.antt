mod Bodies
mod Messages
