mod PidSets
mod Offers
mod Comings
